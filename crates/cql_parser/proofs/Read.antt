-- A query that is written is read.
use Rattle.std.proofs.Common.{◌≡◌, ℕ, ◌+◌, ◌<◌, ◌≤◌, List, [], ◌∷◌, ◌++◌, Option, Some, None, true, false, refl, sym, ap, ap₂, ◌∙◌, subst, arith, append_assoc, append-nil}
use Rattle.std.specs.Prelude.{nat_le, fold}
use Rattle.cql_syntax.specs.declared.token.QueryToken.{QueryToken}
use Rattle.cql_parser.specs.declared.rule_state.OperandContext.{OperandContext}
use Rattle.cql_parser.specs.declared.rule_state.OperandContext.TheVariants.{Within}
use Rattle.cql_parser.specs.declared.rule_state.HeadState.{HeadState}
use Rattle.cql_parser.specs.declared.rule_state.HeadState.TheVariants.{Start, ListDue, Params, FileDue, MatchDue, Over}
use Rattle.cql_parser.specs.declared.rule_state.RuleState.{RuleState}
use Rattle.cql_parser.specs.declared.role.InfixOperator.{InfixOperator}
use Rattle.cql_parser.specs.declared.role.InfixOperator.TheVariants.{Chained, Added, Paired}
use Rattle.cql_parser.specs.declared.role.Role.{Role}
use Rattle.cql_parser.specs.declared.role.Role.TheVariants.{Word, Sign, Number, Name, Text, FileName, Outcome, Designator, End, Other}
use Rattle.cql_parser.specs.RuleStates.{role, heads, opens, context, least, next, whole, level_of, depth_of, joint, infix_level, takes, joins}
use Rattle.cql_parser.specs.Grammar.{Phrase, made, joined, Parts, first, add, put, root, end, Items, none, more, text, texts, items_text, head, head_of, level, IsOver, AreOver, Fits, Goes, AllOver, AllFit, head_step, heading, IsSome, IsGrammatical}
use Rattle.cql_parser.specs.Internal.Machine.{Frame, InRule, Joining, State, Reading, Done, Stuck, depth, due, around, choose, open_if, begin_at, start, join, after_item, onward_by, onward, after, head_to, feed, run, begun, written}

abbrev pub Frames : Type 0
Frames = List (Frame Parts Phrase)

abbrev pub St : Type 0
St = State (List QueryToken) Parts Phrase Items

abbrev pub go : ℕ → St → List QueryToken → St
go l s ts = run written l s ts

pub go_append : (l : ℕ) (s : St) (a b : List QueryToken) → go l s (a ++ b) ≡ go l (go l s a) b
go_append l s [] b = refl
go_append l s (t ∷ a) b = go_append l (feed written l s t) a b

pub le_true : (a b : ℕ) → a ≤ b → nat_le a b ≡ true
le_true a b h = grind arith

pub true_le : (a b : ℕ) → nat_le a b ≡ true → a ≤ b
true_le a b h = grind arith

-- the frames open after a filter, or after parts of a rule, that follow open frames
abbrev mutual
  pub spine : Phrase → Frames → Frames
  spine (made ps) k = spine_of ps k
  spine (joined p x j q) k = spine q (Joining (level p) p x j ∷ k)

  pub spine_of : Parts → Frames → Frames
  spine_of (first x s) k = InRule (first x s) ∷ k
  spine_of (add ps x s) k = InRule (add ps x s) ∷ k
  spine_of (put ps p s) k = spine p (InRule ps ∷ k)

-- a token after a filter that it doesn't belong to
mutual
  unfolding feed after

  pub feed_spine : (l n : ℕ) (c : OperandContext) (h : List QueryToken) (b : Items) (p : Phrase) (k : Frames) (x : QueryToken) → Fits l n c p
      → IsOver p (role x.kind) → feed written l (Reading h b (spine p k)) x ≡ after written l h b (level p) p k x (role x.kind)
  feed_spine l n c h b (made ps) k x fits over =
      feed_spine_of l n c h b ps k x fits.0 over.0
      ∙ ap₂ (λ o w. onward_by written l h b ps k x (role x.kind) o w
      (after written l h b (level_of (root ps)) (made ps) k x (role x.kind))) over.1 fits.1
  feed_spine l n c h b (joined p y j q) k x fits over =
      feed_spine l n Within h b q (Joining (level p) p y j ∷ k) x fits.5 over.0
      ∙ ap (λ t. choose t (join written h b (level q) q (Joining (level p) p y j ∷ k) x (joint (role x.kind)))
      (after written l h b (infix_level j) (joined p y j q) k x (role x.kind))) over.1

  pub feed_spine_of : (l n : ℕ) (c : OperandContext) (h : List QueryToken) (b : Items) (ps : Parts) (k : Frames) (x : QueryToken)
      → Goes l n c ps → AreOver ps (role x.kind)
      → feed written l (Reading h b (spine_of ps k)) x
      ≡ onward written l h b ps k x (role x.kind) (after written l h b (level_of (root ps)) (made ps) k x (role x.kind))
  feed_spine_of l n c h b (first y s) k x goes_ over = refl
  feed_spine_of l n c h b (add ps y s) k x goes_ over = refl
  feed_spine_of l n c h b (put ps p s) k x goes_ over =
      feed_spine l (n + depth_of (root ps)) (context (end ps)) h b p (InRule ps ∷ k) x goes_.6 over.0
      ∙ ap (λ t. choose t (join written h b (level p) p (InRule ps ∷ k) x (joint (role x.kind)))
      (onward written l h b (put ps p (next (end ps))) k x (role x.kind)
      (after written l h b (level_of (root ps)) (made (put ps p (next (end ps)))) k x (role x.kind)))) over.1
      ∙ ap (λ s. onward written l h b (put ps p s) k x (role x.kind)
      (after written l h b (level_of (root ps)) (made (put ps p s)) k x (role x.kind))) goes_.0

pub joins_true : (n : ℕ) (r : Role) (j : InfixOperator) → joint r ≡ Some j → n ≤ infix_level j → joins n r ≡ true
joins_true n r j is low = ap (λ o. elim o [ Some j ↦ nat_le n (infix_level j) | None ↦ false ]) is ∙ le_true n (infix_level j) low

-- a token that makes a row longer
pub join_read : (l : ℕ) (h : List QueryToken) (b : Items) (v : ℕ) (p : Phrase) (k : Frames) (x : QueryToken) (j : InfixOperator)
    → joint (role x.kind) ≡ Some j → takes j v ≡ true → due written k ≤ infix_level j
    → after written l h b v p k x (role x.kind) ≡ Reading h b (Joining v p x j ∷ k)
unfolding after
join_read l h b v p [] x j is takes_ low =
    ap₂ (λ t o. choose t (join written h b v p [] x o) (after_item written l h (more b p) x (role x.kind)))
    (joins_true 0 (role x.kind) j is low) is
    ∙ ap (λ t. choose t (Reading h b (Joining v p x j ∷ [])) Stuck) takes_
join_read l h b v p (Joining e f y i ∷ k) x j is takes_ low =
    ap₂ (λ t o. choose t (join written h b v p (Joining e f y i ∷ k) x o)
    (after written l h b (infix_level i) (joined f y i p) k x (role x.kind))) (joins_true (infix_level i + 1) (role x.kind) j is low) is
    ∙ ap (λ t. choose t (Reading h b (Joining v p x j ∷ Joining e f y i ∷ k)) Stuck) takes_
join_read l h b v p (InRule d ∷ k) x j is takes_ low =
    ap₂ (λ t o. choose t (join written h b v p (InRule d ∷ k) x o)
    (onward written l h b (put d p (next (end d))) k x (role x.kind)
    (after written l h b (level_of (root d)) (made (put d p (next (end d)))) k x (role x.kind))))
    (joins_true (least (end d)) (role x.kind) j is low) is
    ∙ ap (λ t. choose t (Reading h b (Joining v p x j ∷ InRule d ∷ k)) Stuck) takes_

pub takes_low : (j : InfixOperator) (c : ℕ) → takes j c ≡ true → infix_level j ≤ c
unfolding takes infix_level
takes_low (Chained o) c h = true_le _ c h
takes_low (Added minus) c h = true_le 4 c h
takes_low (Paired p) c h = grind arith

-- a filter, from a state in which it is due
mutual
  unfolding feed

  pub read_phrase : (l : ℕ) (h : List QueryToken) (b : Items) (p : Phrase) (k : Frames) (u : St)
      → Fits l (depth written k) (around written k) p → due written k ≤ level p
      → feed written l u (head p) ≡ start written l h b k (head p) (role (head p).kind) → go l u (text p) ≡ Reading h b (spine p k)
  read_phrase l h b (made ps) k u fits low starts = read_parts l h b ps k u fits.0 low starts
  read_phrase l h b (joined p x j q) k u fits low starts =
      let least_ : due written k ≤ level p = (let g : infix_level j ≤ level p = takes_low j (level p) fits.1 in omega arith) in
      let left = read_phrase l h b p k u fits.4 least_ starts in
      let over : feed written l (Reading h b (spine p k)) x ≡ Reading h b (Joining (level p) p x j ∷ k) =
      feed_spine l (depth written k) (around written k) h b p k x fits.4 fits.3 ∙ join_read l h b (level p) p k x j fits.0 fits.1 low in
      let upper : infix_level j + 1 ≤ level q = (let g : infix_level j < level q = fits.2 in omega arith) in
      go_append l u (text p) (x ∷ text q)
      ∙ ap (λ s. go l (feed written l s x) (text q)) left
      ∙ ap (λ s. go l s (text q)) over
      ∙ read_phrase l h b q (Joining (level p) p x j ∷ k) (Reading h b (Joining (level p) p x j ∷ k)) fits.5 upper refl

  pub read_parts : (l : ℕ) (h : List QueryToken) (b : Items) (ps : Parts) (k : Frames) (u : St)
      → Goes l (depth written k) (around written k) ps → due written k ≤ level_of (root ps)
      → feed written l u (head_of ps) ≡ start written l h b k (head_of ps) (role (head_of ps).kind)
      → go l u (texts ps) ≡ Reading h b (spine_of ps k)
  read_parts l h b (first x s) k u goes_ low starts =
      starts ∙ ap (begin_at written l h b k x) goes_.0
      ∙ ap₂ (λ t w. open_if t w (Reading h b (InRule (first x s) ∷ k))) (le_true (due written k) (level_of s) low)
      (le_true (depth written k + depth_of s) l goes_.1)
  read_parts l h b (add ps x s) k u goes_ low starts =
      go_append l u (texts ps) (x ∷ [])
      ∙ ap (λ s. feed written l s x) (read_parts l h b ps k u goes_.2 low starts)
      ∙ feed_spine_of l (depth written k) (around written k) h b ps k x goes_.2 goes_.1
      ∙ ap (λ o. onward_by written l h b ps k x (role x.kind) o (whole (end ps))
      (after written l h b (level_of (root ps)) (made ps) k x (role x.kind))) goes_.0
  read_parts l h b (put ps p s) k u goes_ low starts =
      let again : feed written l (Reading h b (spine_of ps k)) (head p)
      ≡ start written l h b (InRule ps ∷ k) (head p) (role (head p).kind) =
      feed_spine_of l (depth written k) (around written k) h b ps k (head p) goes_.5 goes_.3
      ∙ ap₂ (λ o w. onward_by written l h b ps k (head p) (role (head p).kind) o w
      (after written l h b (level_of (root ps)) (made ps) k (head p) (role (head p).kind))) goes_.2 goes_.1 in
      go_append l u (texts ps) (text p)
      ∙ ap (λ s. go l s (text p)) (read_parts l h b ps k u goes_.5 low starts)
      ∙ read_phrase l h b p (InRule ps ∷ k) (Reading h b (spine_of ps k)) goes_.6 goes_.4 again

-- the frames open after items, and the items before
abbrev pub read_items : List QueryToken → Items → St
read_items h none = Reading h none []
read_items h (more ps p) = Reading h ps (spine p [])

nothing_opens : (s : RuleState) → opens Within End ≡ Some s → ⊥
unfolding opens
nothing_opens s is = cc

-- a token that begins an item is no end
pub item_starts : (l : ℕ) (h : List QueryToken) (b : Items) (x : QueryToken) (r : Role) (s : RuleState) → opens Within r ≡ Some s
    → after_item written l h b x r ≡ start written l h b [] x r
item_starts l h b x (Word w) s is = refl
item_starts l h b x (Sign w) s is = refl
item_starts l h b x (Number n) s is = refl
item_starts l h b x Name s is = refl
item_starts l h b x Text s is = refl
item_starts l h b x FileName s is = refl
item_starts l h b x Outcome s is = refl
item_starts l h b x Designator s is = refl
item_starts l h b x End s is = absurd (nothing_opens s is)
item_starts l h b x Other s is = refl

-- a filter begins with a token that opens one
mutual
  pub opens_head : (l n : ℕ) (c : OperandContext) (p : Phrase) → Fits l n c p → (s : RuleState) × (opens c (role (head p).kind) ≡ Some s)
  opens_head l n c (made ps) fits = opens_head_of l n c ps fits.0
  opens_head l n c (joined p x j q) fits = opens_head l n c p fits.4

  pub opens_head_of : (l n : ℕ) (c : OperandContext) (ps : Parts) → Goes l n c ps
      → (s : RuleState) × (opens c (role (head_of ps).kind) ≡ Some s)
  opens_head_of l n c (first x s) goes_ = (s, goes_.0)
  opens_head_of l n c (add ps x s) goes_ = opens_head_of l n c ps goes_.2
  opens_head_of l n c (put ps p s) goes_ = opens_head_of l n c ps goes_.5

-- a token after items
after_items : (l : ℕ) (h : List QueryToken) (ps : Items) (p : Phrase) (x : QueryToken) → Fits l 0 Within p
    → AllOver (more ps p) (role x.kind)
    → feed written l (read_items h (more ps p)) x ≡ after_item written l h (more ps p) x (role x.kind)
unfolding after
after_items l h ps p x fits over =
    feed_spine l 0 Within h ps p [] x fits over.0
    ∙ ap (λ t. choose t (join written h ps (level p) p [] x (joint (role x.kind))) (after_item written l h (more ps p) x (role x.kind)))
    over.1

item_due : (l : ℕ) (h : List QueryToken) (ps : Items) (x : QueryToken) (s : RuleState) → AllFit l ps → AllOver ps (role x.kind)
    → opens Within (role x.kind) ≡ Some s → feed written l (read_items h ps) x ≡ start written l h ps [] x (role x.kind)
unfolding feed
item_due l h none x s fits over is = refl
item_due l h (more ps p) x s fits over is = after_items l h ps p x fits.2 over ∙ item_starts l h (more ps p) x (role x.kind) s is

pub items_read : (l : ℕ) (h : List QueryToken) (ps : Items) → AllFit l ps
    → go l (Reading h none []) (items_text ps) ≡ read_items h ps
items_read l h none fits = refl
items_read l h (more ps p) fits =
    let opened = opens_head l 0 Within p fits.2 in
    go_append l (Reading h none []) (items_text ps) (text p)
    ∙ ap (λ s. go l s (text p)) (items_read l h ps fits.1)
    ∙ read_phrase l h ps p [] (read_items h ps) fits.2 (omega arith) (item_due l h ps (head p) opened.0 fits.1 fits.0 opened.1)

-- the head of a query
never_over : (ts : List QueryToken) → fold head_step None ts ≡ Some Over → ⊥
never_over [] is = cc
never_over (x ∷ ts) is = never_over ts is

no_heads : (r : Role) → heads Over r ≡ None
unfolding heads
no_heads r = refl

abbrev Headed : ℕ → List QueryToken → List QueryToken → Option HeadState → Type 0
Headed l h ts o = fold head_step o ts ≡ Some Over → go l (head_to written h o) ts ≡ Reading (h ++ ts) none []

heads_read : (l : ℕ) (h ts : List QueryToken) (o : Option HeadState) → Headed l h ts o
unfolding feed
heads_read l h ts None is = absurd (never_over ts is)
heads_read l h [] (Some Start) is = absurd cc
heads_read l h [] (Some ListDue) is = absurd cc
heads_read l h [] (Some Params) is = absurd cc
heads_read l h [] (Some FileDue) is = absurd cc
heads_read l h [] (Some MatchDue) is = absurd cc
heads_read l h [] (Some Over) is = ap (λ t. Reading t none []) (sym (append-nil h))
heads_read l h (x ∷ ts) (Some Start) is = heads_read l (h ++ (x ∷ [])) ts (heads Start (role x.kind)) is
    ∙ ap (λ t. Reading t none []) (append_assoc h (x ∷ []) ts)
heads_read l h (x ∷ ts) (Some ListDue) is = heads_read l (h ++ (x ∷ [])) ts (heads ListDue (role x.kind)) is
    ∙ ap (λ t. Reading t none []) (append_assoc h (x ∷ []) ts)
heads_read l h (x ∷ ts) (Some Params) is = heads_read l (h ++ (x ∷ [])) ts (heads Params (role x.kind)) is
    ∙ ap (λ t. Reading t none []) (append_assoc h (x ∷ []) ts)
heads_read l h (x ∷ ts) (Some FileDue) is = heads_read l (h ++ (x ∷ [])) ts (heads FileDue (role x.kind)) is
    ∙ ap (λ t. Reading t none []) (append_assoc h (x ∷ []) ts)
heads_read l h (x ∷ ts) (Some MatchDue) is = heads_read l (h ++ (x ∷ [])) ts (heads MatchDue (role x.kind)) is
    ∙ ap (λ t. Reading t none []) (append_assoc h (x ∷ []) ts)
heads_read l h (x ∷ ts) (Some Over) is = absurd (never_over ts (ap (λ o. fold head_step o ts) (sym (no_heads (role x.kind))) ∙ is))

whole_read : (l : ℕ) (ts opening : List QueryToken) (ps : Items) (x : QueryToken) → heading opening ≡ Some Over → IsSome ps
    → AllFit l ps → AllOver ps End → role x.kind ≡ End → opening ++ (items_text ps ++ (x ∷ [])) ≡ ts
    → go l (begun written) ts ≡ Done opening ps
whole_read l ts opening none x heads_ some fits over is spelled = absurd some
whole_read l ts opening (more ps p) x heads_ some fits over is spelled =
    let ends : feed written l (read_items opening (more ps p)) x ≡ Done opening (more ps p) =
    after_items l opening ps p x fits.2 (subst (λ r. AllOver (more ps p) r) (sym is) over)
    ∙ ap (after_item written l opening (more ps p) x) is in
    ap (go l (begun written)) (sym spelled)
    ∙ go_append l (begun written) opening (items_text (more ps p) ++ (x ∷ []))
    ∙ ap (λ s. go l s (items_text (more ps p) ++ (x ∷ []))) (heads_read l [] opening (Some Start) heads_)
    ∙ go_append l (Reading opening none []) (items_text (more ps p)) (x ∷ [])
    ∙ ap (λ s. feed written l s x) (items_read l opening (more ps p) fits)
    ∙ ends

-- a whole query
pub query_read : (l : ℕ) (ts : List QueryToken) (w : IsGrammatical l ts) → go l (begun written) ts ≡ Done w.opening w.items
query_read l ts w = whole_read l ts w.opening w.items w.closing w.opens w.some w.fits w.over w.closes w.spelled
