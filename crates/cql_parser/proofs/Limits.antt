-- Token lists that the depth alone forbids.
use Rattle.std.proofs.Common.{◌≡◌, ℕ, ◌+◌, ◌≤◌, List, [], ◌∷◌, ◌++◌, Option, Some, None, Bool, true, false, refl, sym, ap, ◌∙◌, subst, arith}
use Rattle.std.specs.Prelude.{nat_le}
use Rattle.cql_syntax.specs.declared.token.QueryToken.{QueryToken}
use Rattle.cql_parser.specs.declared.rule_state.OperandContext.{OperandContext}
use Rattle.cql_parser.specs.declared.rule_state.HeadState.{HeadState}
use Rattle.cql_parser.specs.declared.rule_state.HeadState.TheVariants.{Start, ListDue, Params, FileDue, MatchDue, Over}
use Rattle.cql_parser.specs.declared.rule_state.RuleState.{RuleState}
use Rattle.cql_parser.specs.declared.role.InfixOperator.{InfixOperator}
use Rattle.cql_parser.specs.declared.role.Role.{Role}
use Rattle.cql_parser.specs.declared.role.Role.TheVariants.{Word, Sign, Number, Name, Text, FileName, Outcome, Designator, End, Other}
use Rattle.cql_parser.specs.RuleStates.{role, heads, opens, goes, context, least, next, whole, level_of, depth_of, joint, infix_level, takes, joins}
use Rattle.cql_parser.specs.Grammar.{Phrase, made, joined, Parts, first, add, put, root, end, Items, none, more, Fits, Goes, AllFit, IsGrammaticalPrefix}
use Rattle.cql_parser.specs.Internal.Machine.{InRule, Joining, Opening, Reading, Done, Deep, Stuck, depth, due, around, choose, open_if, begin_at, start, join, after_item, onward_by, onward, after, head_to, feed, begun, written}
use Rattle.cql_parser.proofs.Begun.{Lives}
use Rattle.cql_parser.proofs.Answer.{stuck_is_dead, living_begins}
use Rattle.cql_parser.proofs.Read.{Frames, St, go, go_append, le_true}

-- a filter that is written within a limit is written within a greater one
mutual
  more_fits : (l m n : ℕ) (c : OperandContext) (p : Phrase) → Fits l n c p → Fits (l + m) n c p
  more_fits l m n c (made ps) fits = (more_goes l m n c ps fits.0, fits.1)
  more_fits l m n c (joined p x j q) fits = (fits.0, fits.1, fits.2, fits.3, more_fits l m n c p fits.4, more_fits l m n _ q fits.5)

  more_goes : (l m n : ℕ) (c : OperandContext) (ps : Parts) → Goes l n c ps → Goes (l + m) n c ps
  more_goes l m n c (first x s) goes_ = (goes_.0, (let h : n + depth_of s ≤ l = goes_.1 in omega arith))
  more_goes l m n c (add ps x s) goes_ = (goes_.0, goes_.1, more_goes l m n c ps goes_.2)
  more_goes l m n c (put ps p s) goes_ = (
    goes_.0,
    goes_.1,
    goes_.2,
    goes_.3,
    goes_.4,
    more_goes l m n c ps goes_.5,
    more_fits l m (n + depth_of (root ps)) (context (end ps))
        p goes_.6,
  )

more_all : (l m : ℕ) (ps : Items) → AllFit l ps → AllFit (l + m) ps
more_all l m none fits = tt
more_all l m (more ps p) fits = (fits.0, more_all l m ps fits.1, more_fits l m 0 _ p fits.2)

pub more_begins : (l m : ℕ) (ts : List QueryToken) → IsGrammaticalPrefix l ts → IsGrammaticalPrefix (l + m) ts
more_begins l m ts b = record {
  rest = b.rest;
  query = record {
    opening = b.query.opening;
    items = b.query.items;
    closing = b.query.closing;
    opens = b.query.opens;
    some = b.query.some;
    fits = more_all l m b.query.items b.query.fits;
    over = b.query.over;
    closes = b.query.closes;
    spelled = b.query.spelled;
  };
}

-- With a greater limit a state is the same, or it lives where it was too deep.
pub record Raises (f : ℕ → St) (l : ℕ) : Type 0 where
  pub same : (m : ℕ) → ((f l ≡ Deep) → ⊥) → f (l + m) ≡ f l
  pub deep : f l ≡ Deep → (m : ℕ) × Lives (f (l + m))

raises_same : (f : ℕ → St) (l : ℕ) → ((m : ℕ) → f (l + m) ≡ f l) → ((f l ≡ Deep) → ⊥) → Raises f l
raises_same f l is not_deep = record { same = λ m h. is m; deep = λ e. absurd (not_deep e) }

opens_by : (h : List QueryToken) (b : Items) (k : Frames) (n l : ℕ) (w : Bool) → nat_le n l ≡ w
    → Raises (λ limit. open_if true (nat_le n limit) (Reading h b k)) l
opens_by h b k n l true is = record {
  same = λ m e. ap (λ w. open_if true w (Reading h b k)) (le_true n (l + m) (let g : n ≤ l = (grind arith) in omega arith) ∙ sym is);
  deep = λ e. absurd (let g : open_if true true (Reading h b k) ≡ Deep = sym (ap (λ w. open_if true w (Reading h b k)) is) ∙ e in cc);
}
opens_by h b k n l false is = record {
  same = λ m e. absurd (e (ap (λ w. open_if true w (Reading h b k)) is));
  deep = λ e. (n, subst (λ w. Lives (open_if true w (Reading h b k))) (sym (le_true n (l + n) (omega arith))) tt);
}

opens_raise : (h : List QueryToken) (b : Items) (k : Frames) (n : ℕ) (t : Bool) (l : ℕ)
    → Raises (λ limit. open_if t (nat_le n limit) (Reading h b k)) l
opens_raise h b k n false l = raises_same (λ limit. Stuck) l (λ m. refl) (λ e. cc)
opens_raise h b k n true l = opens_by h b k n l (nat_le n l) refl

begin_raise : (h : List QueryToken) (b : Items) (k : Frames) (x : QueryToken) (o : Option RuleState) (l : ℕ)
    → Raises (λ limit. begin_at written limit h b k x o) l
begin_raise h b k x None l = raises_same (λ limit. Stuck) l (λ m. refl) (λ e. cc)
begin_raise h b k x (Some s) l =
    opens_raise h b (InRule (first x s) ∷ k) (depth written k + depth_of s) (nat_le (due written k) (level_of s)) l

start_raise : (h : List QueryToken) (b : Items) (k : Frames) (x : QueryToken) (r : Role) (l : ℕ)
    → Raises (λ limit. start written limit h b k x r) l
start_raise h b k x r l = begin_raise h b k x (opens (around written k) r) l

join_by : (h : List QueryToken) (b : Items) (v : ℕ) (p : Phrase) (k : Frames) (x : QueryToken) (j : InfixOperator) (t : Bool) (l : ℕ)
    → Raises (λ limit. choose t (Reading h b (Joining v p x j ∷ k)) Stuck) l
join_by h b v p k x j true l = raises_same (λ limit. Reading h b (Joining v p x j ∷ k)) l (λ m. refl) (λ e. cc)
join_by h b v p k x j false l = raises_same (λ limit. Stuck) l (λ m. refl) (λ e. cc)

add_comm : (a b : ℕ) → a + b ≡ b + a
add_comm a b = omega arith

join_raise : (h : List QueryToken) (b : Items) (v : ℕ) (p : Phrase) (k : Frames) (x : QueryToken) (o : Option InfixOperator) (l : ℕ)
    → Raises (λ limit. join written h b v p k x o) l
join_raise h b v p k x None l = raises_same (λ limit. Stuck) l (λ m. refl) (λ e. cc)
join_raise h b v p k x (Some j) l = join_by h b v p k x j (takes j v) l

choose_raise : (t : Bool) (f g : ℕ → St) (l : ℕ) → Raises f l → Raises g l → Raises (λ limit. choose t (f limit) (g limit)) l
choose_raise true f g l one other = one
choose_raise false f g l one other = other

item_raise : (h : List QueryToken) (b : Items) (x : QueryToken) (r : Role) (l : ℕ)
    → Raises (λ limit. after_item written limit h b x r) l
item_raise h b x End l = raises_same (λ limit. Done h b) l (λ m. refl) (λ e. cc)
item_raise h b x (Word w) l = start_raise h b [] x (Word w) l
item_raise h b x (Sign s) l = start_raise h b [] x (Sign s) l
item_raise h b x (Number n) l = start_raise h b [] x (Number n) l
item_raise h b x Name l = start_raise h b [] x Name l
item_raise h b x Text l = start_raise h b [] x Text l
item_raise h b x FileName l = start_raise h b [] x FileName l
item_raise h b x Outcome l = start_raise h b [] x Outcome l
item_raise h b x Designator l = start_raise h b [] x Designator l
item_raise h b x Other l = start_raise h b [] x Other l

onward_raise : (h : List QueryToken) (b : Items) (d : Parts) (k : Frames) (x : QueryToken) (r : Role) (o : Option RuleState) (w : Bool) (f : ℕ
    → St) (l : ℕ) → Raises f l → Raises (λ limit. onward_by written limit h b d k x r o w (f limit)) l
onward_raise h b d k x r (Some s) w f l then_ = raises_same (λ limit. Reading h b (InRule (add d x s) ∷ k)) l (λ m. refl) (λ e. cc)
onward_raise h b d k x r None true f l then_ = then_
onward_raise h b d k x r None false f l then_ = start_raise h b (InRule d ∷ k) x r l

after_raise : (h : List QueryToken) (b : Items) (v : ℕ) (p : Phrase) (k : Frames) (x : QueryToken) (r : Role) (l : ℕ)
    → Raises (λ limit. after written limit h b v p k x r) l
unfolding after
after_raise h b v p [] x r l =
    choose_raise (joins 0 r) (λ limit. join written h b v p [] x (joint r)) (λ limit. after_item written limit h (more b p) x r) l
    (join_raise h b v p [] x (joint r) l) (item_raise h (more b p) x r l)
after_raise h b v p (Joining e f y j ∷ k) x r l =
    choose_raise (joins (infix_level j + 1) r) (λ limit. join written h b v p (Joining e f y j ∷ k) x (joint r))
    (λ limit. after written limit h b (infix_level j) (joined f y j p) k x r) l
    (join_raise h b v p (Joining e f y j ∷ k) x (joint r) l) (after_raise h b (infix_level j) (joined f y j p) k x r l)
after_raise h b v p (InRule d ∷ k) x r l =
    choose_raise (joins (least (end d)) r) (λ limit. join written h b v p (InRule d ∷ k) x (joint r))
    (λ limit. onward written limit h b (put d p (next (end d))) k x r
    (after written limit h b (level_of (root d)) (made (put d p (next (end d)))) k x r)) l
    (join_raise h b v p (InRule d ∷ k) x (joint r) l)
    (onward_raise h b (put d p (next (end d))) k x r (goes (next (end d)) r) (whole (next (end d)))
    (λ limit. after written limit h b (level_of (root d)) (made (put d p (next (end d)))) k x r) l
    (after_raise h b (level_of (root d)) (made (put d p (next (end d)))) k x r l))

head_raise : (h : List QueryToken) (o : Option HeadState) (l : ℕ) → Raises (λ limit. head_to written h o) l
head_raise h None l = raises_same (λ limit. Stuck) l (λ m. refl) (λ e. cc)
head_raise h (Some Start) l = raises_same (λ limit. Opening h Start) l (λ m. refl) (λ e. cc)
head_raise h (Some ListDue) l = raises_same (λ limit. Opening h ListDue) l (λ m. refl) (λ e. cc)
head_raise h (Some Params) l = raises_same (λ limit. Opening h Params) l (λ m. refl) (λ e. cc)
head_raise h (Some FileDue) l = raises_same (λ limit. Opening h FileDue) l (λ m. refl) (λ e. cc)
head_raise h (Some MatchDue) l = raises_same (λ limit. Opening h MatchDue) l (λ m. refl) (λ e. cc)
head_raise h (Some Over) l = raises_same (λ limit. Reading h none []) l (λ m. refl) (λ e. cc)

pub feed_raise : (s : St) (x : QueryToken) (l : ℕ) → Lives s → Raises (λ limit. feed written limit s x) l
unfolding feed
feed_raise (Opening h place) x l live = head_raise (h ++ (x ∷ [])) (heads place (role x.kind)) l
feed_raise (Reading h b []) x l live = start_raise h b [] x (role x.kind) l
feed_raise (Reading h b (Joining v p y j ∷ k)) x l live = start_raise h b (Joining v p y j ∷ k) x (role x.kind) l
feed_raise (Reading h b (InRule d ∷ k)) x l live =
    onward_raise h b d k x (role x.kind) (goes (end d) (role x.kind)) (whole (end d))
    (λ limit. after written limit h b (level_of (root d)) (made d) k x (role x.kind)) l
    (after_raise h b (level_of (root d)) (made d) k x (role x.kind) l)
feed_raise (Done h b) x l live = raises_same (λ limit. Stuck) l (λ m. refl) (λ e. cc)
feed_raise Deep x l live = absurd live
feed_raise Stuck x l live = absurd live

-- a list that is read within a limit is read alike within a greater one
lives_before : (l : ℕ) (s : St) (x : QueryToken) → Lives (feed written l s x) → Lives s
unfolding feed
lives_before l (Opening h place) x live = tt
lives_before l (Reading h b k) x live = tt
lives_before l (Done h b) x live = tt
lives_before l Deep x live = live
lives_before l Stuck x live = live

lives_start : (l : ℕ) (ts : List QueryToken) (s : St) → Lives (go l s ts) → Lives s
lives_start l [] s live = live
lives_start l (x ∷ ts) s live = lives_before l s x (lives_start l ts (feed written l s x) live)

not_deep : (s : St) → Lives s → (s ≡ Deep) → ⊥
not_deep s live is = subst Lives is live

pub go_raise : (l m : ℕ) (ts : List QueryToken) (s : St) → Lives (go l s ts) → go (l + m) s ts ≡ go l s ts
go_raise l m [] s live = refl
go_raise l m (x ∷ ts) s live =
    let next_lives = lives_start l ts (feed written l s x) live in
    ap (λ u. go (l + m) u ts) ((feed_raise s x l (lives_before l s x next_lives)).same m (not_deep (feed written l s x) next_lives))
    ∙ go_raise l m ts (feed written l s x) live

-- at the first token that is too deep some query goes on within another limit
pub deep_begins : (l : ℕ) (ts : List QueryToken) (x : QueryToken) → Lives (go l (begun written) ts)
    → feed written l (go l (begun written) ts) x ≡ Deep → (limit : ℕ) × IsGrammaticalPrefix limit (ts ++ (x ∷ []))
deep_begins l ts x live is =
    let found = (feed_raise (go l (begun written) ts) x l live).deep is in (
      l + found.0,
      living_begins (l + found.0) (ts ++ (x ∷ []))
          (subst Lives (ap (λ u. feed written (l + found.0) u x) (sym (go_raise l found.0 ts (begun written) live))
          ∙ sym (go_append (l + found.0) (begun written) ts (x ∷ []))) found.1),
    )

-- at the first token at which reading is stuck no query goes on within any limit
pub stuck_never_begins : (l : ℕ) (ts : List QueryToken) (x : QueryToken) → Lives (go l (begun written) ts)
    → feed written l (go l (begun written) ts) x ≡ Stuck → (limit : ℕ) → IsGrammaticalPrefix limit (ts ++ (x ∷ [])) → ⊥
stuck_never_begins l ts x live is limit b =
    let same = (feed_raise (go l (begun written) ts) x l live).same limit (λ e. let g : Stuck ≡ Deep = sym is ∙ e in cc) in
    stuck_is_dead (l + limit) (ts ++ (x ∷ []))
    (go_append (l + limit) (begun written) ts (x ∷ [])
    ∙ ap (λ u. feed written (l + limit) u x) (go_raise l limit ts (begun written) live) ∙ same ∙ is)
    (subst (λ n. IsGrammaticalPrefix n (ts ++ (x ∷ []))) (add_comm limit l) (more_begins limit l (ts ++ (x ∷ [])) b))
