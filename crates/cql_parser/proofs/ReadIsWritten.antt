-- A query that is read is written.
use Rattle.std.proofs.Common.{◌≡◌, ℕ, ◌+◌, ◌<◌, ◌≤◌, List, [], ◌∷◌, ◌++◌, Option, Some, None, Bool, true, false, refl, sym, ap, ◌∙◌, subst, arith, append_assoc, append-nil}
use Rattle.std.specs.Prelude.{nat_le, fold}
use Rattle.cql_syntax.specs.declared.token.QueryToken.{QueryToken}
use Rattle.cql_parser.specs.declared.rule_state.HeadState.{HeadState}
use Rattle.cql_parser.specs.declared.rule_state.HeadState.TheVariants.{Start, ListDue, Params, FileDue, MatchDue, Over}
use Rattle.cql_parser.specs.declared.rule_state.RuleState.{RuleState}
use Rattle.cql_parser.specs.declared.role.InfixOperator.{InfixOperator}
use Rattle.cql_parser.specs.declared.role.Role.{Role}
use Rattle.cql_parser.specs.declared.role.Role.TheVariants.{Word, Sign, Number, Name, Text, FileName, Outcome, Designator, End, Other}
use Rattle.cql_parser.specs.RuleStates.{role, heads, opens, goes, least, next, whole, level_of, depth_of, joint, infix_level, takes, joins}
use Rattle.cql_parser.specs.Grammar.{Phrase, made, joined, Parts, first, put, root, end, Items, more, text, texts, items_text, head, head_of, level, IsOver, AreOver, Fits, Goes, AllOver, AllFit, head_step, heading, IsGrammatical}
use Rattle.cql_parser.specs.Internal.Machine.{InRule, Joining, Opening, Reading, Done, Deep, Stuck, depth, due, around, choose, open_if, begin_at, start, join, after_item, onward_by, onward, after, head_to, feed, begun, written}
use Rattle.cql_parser.proofs.Read.{Frames, St, go, true_le}

-- the tokens that what is open has read
abbrev pub stack_text : Frames → List QueryToken
stack_text [] = []
stack_text (InRule ps ∷ k) = stack_text k ++ texts ps
stack_text (Joining v p x j ∷ k) = stack_text k ++ (text p ++ (x ∷ []))

-- a token after what is open begins a part of it
abbrev pub Under : Items → Frames → Role → Type 0
Under b [] r = AllOver b r
Under b (InRule ps ∷ k) r = (whole (end ps) ≡ false) × (goes (end ps) r ≡ None) × AreOver ps r
Under b (Joining v p x j ∷ k) r = Unit {0}

-- the open frames are written by the grammar
pub record GoodInRule (l : ℕ) (b : Items) (k : Frames) (ps : Parts) : Type 0 where
  pub goes_ : Goes l (depth written k) (around written k) ps
  pub low : due written k ≤ level_of (root ps)
  pub under : Under b k (role (head_of ps).kind)

pub record GoodJoining (l : ℕ) (b : Items) (k : Frames) (v : ℕ) (p : Phrase) (x : QueryToken) (j : InfixOperator) : Type 0 where
  pub is : joint (role x.kind) ≡ Some j
  pub takes_ : takes j v ≡ true
  pub leveled : v ≡ level p
  pub over : IsOver p (role x.kind)
  pub fits : Fits l (depth written k) (around written k) p
  pub low : due written k ≤ infix_level j
  pub under : Under b k (role (head p).kind)

abbrev pub Good : ℕ → Items → Frames → Type 0
Good l b [] = Unit {0}
Good l b (InRule ps ∷ k) = GoodInRule l b k ps × Good l b k
Good l b (Joining v p x j ∷ k) = GoodJoining l b k v p x j × Good l b k

-- no token that follows belongs to a part that was read before
abbrev pub Fresh : Items → Frames → Role → Type 0
Fresh b [] r = AllOver b r
Fresh b (InRule ps ∷ k) r = AreOver ps r
Fresh b (Joining v p x j ∷ k) r = Unit {0}

pub record GoodReading (l : ℕ) (h : List QueryToken) (b : Items) (k : Frames) (ts : List QueryToken) : Type 0 where
  pub heads_ : heading h ≡ Some Over
  pub fits : AllFit l b
  pub good : Good l b k
  pub fresh : (r : Role) → Fresh b k r
  pub spelled : h ++ (items_text b ++ stack_text k) ≡ ts

pub record GoodDone (l : ℕ) (h : List QueryToken) (b : Items) (ts : List QueryToken) : Type 0 where
  pub query : IsGrammatical l ts
  pub opening_is : query.opening ≡ h
  pub items_is : query.items ≡ b

abbrev pub Stands : ℕ → List QueryToken → St → Type 0
Stands l ts (Opening h place) = (h ≡ ts) × (heading h ≡ Some place)
Stands l ts (Reading h b k) = GoodReading l h b k ts
Stands l ts (Done h b) = GoodDone l h b ts
Stands l ts Deep = Unit {0}
Stands l ts Stuck = Unit {0}

-- texts
abbrev Tokens : Type 0
Tokens = List QueryToken

pub one_more : (a b c ts d : Tokens) → a ++ (b ++ c) ≡ ts → a ++ (b ++ (c ++ d)) ≡ ts ++ d
one_more a b c ts d is = ap (λ t. a ++ t) (sym (append_assoc b c d)) ∙ sym (append_assoc a (b ++ c) d) ∙ ap (λ t. t ++ d) is

pub two_more : (a b c e ts d : Tokens) → a ++ (b ++ (c ++ e)) ≡ ts → a ++ (b ++ (c ++ (e ++ d))) ≡ ts ++ d
two_more a b c e ts d is = ap (λ t. a ++ (b ++ t)) (sym (append_assoc c e d)) ∙ one_more a b (c ++ e) ts d is

pub regroup : (a b c d e ts : Tokens) → a ++ (b ++ ((c ++ d) ++ e)) ≡ ts → a ++ (b ++ (c ++ (d ++ e))) ≡ ts
regroup a b c d e ts is = ap (λ t. a ++ (b ++ t)) (sym (append_assoc c d e)) ∙ is

pub joined_text : (a b c d e ts : Tokens) (y : QueryToken) → a ++ (b ++ ((c ++ (d ++ (y ∷ []))) ++ e)) ≡ ts
    → a ++ (b ++ (c ++ (d ++ (y ∷ e)))) ≡ ts
joined_text a b c d e ts y is = ap (λ t. a ++ (b ++ (c ++ t))) (sym (append_assoc d (y ∷ []) e))
    ∙ regroup a b c (d ++ (y ∷ [])) e ts is

item_text : (a b c ts : Tokens) → a ++ (b ++ c) ≡ ts → a ++ ((b ++ c) ++ []) ≡ ts
item_text a b c ts is = ap (λ t. a ++ t) (append-nil (b ++ c)) ∙ is

pub end_text : (a b c ts d : Tokens) → a ++ (b ++ c) ≡ ts → a ++ ((b ++ c) ++ d) ≡ ts ++ d
end_text a b c ts d is = sym (append_assoc a (b ++ c) d) ∙ ap (λ t. t ++ d) is

-- a property of a choice, if each branch has it
split : (l : ℕ) (ts : Tokens) (t : Bool) (s u : St) → (t ≡ true → Stands l ts s) → (t ≡ false → Stands l ts u)
    → Stands l ts (choose t s u)
split l ts true s u f g = f refl
split l ts false s u f g = g refl

-- the properties of a state in which a filter is due
pub record Waits (l : ℕ) (h : List QueryToken) (b : Items) (k : Frames) (ts : List QueryToken) : Type 0 where
  pub heads_ : heading h ≡ Some Over
  pub fits : AllFit l b
  pub good : Good l b k
  pub spelled : h ++ (items_text b ++ stack_text k) ≡ ts

opened : (l : ℕ) (h : Tokens) (b : Items) (k : Frames) (ts : Tokens) (x : QueryToken) (r : Role) (s : RuleState) (t w : Bool)
    → role x.kind ≡ r → Waits l h b k ts → Under b k r → opens (around written k) r ≡ Some s
    → nat_le (due written k) (level_of s) ≡ t → nat_le (depth written k + depth_of s) l ≡ w
    → Stands l (ts ++ (x ∷ [])) (open_if t w (Reading h b (InRule (first x s) ∷ k)))
opened l h b k ts x r s true true is waits under opens_ low few =
    record {
      heads_ = waits.heads_;
      fits = waits.fits;
      good = (
        record {
          goes_ = (ap (opens (around written k)) is ∙ opens_, true_le _ _ few);
          low = true_le _ _ low;
          under =
              subst (Under b k) (sym is) under;
        },
        waits.good,
      );
      fresh = λ q. tt;
      spelled = one_more h (items_text b) (stack_text k) ts (x ∷ []) waits.spelled;
    }
opened l h b k ts x r s true false is waits under opens_ low few = tt
opened l h b k ts x r s false w is waits under opens_ low few = tt

begins_at : (l : ℕ) (h : Tokens) (b : Items) (k : Frames) (ts : Tokens) (x : QueryToken) (r : Role) (o : Option RuleState)
    → role x.kind ≡ r → Waits l h b k ts → Under b k r → opens (around written k) r ≡ o
    → Stands l (ts ++ (x ∷ [])) (begin_at written l h b k x o)
begins_at l h b k ts x r None is waits under opens_ = tt
begins_at l h b k ts x r (Some s) is waits under opens_ =
    opened l h b k ts x r s (nat_le (due written k) (level_of s)) (nat_le (depth written k + depth_of s) l) is waits under opens_ refl refl

starts : (l : ℕ) (h : Tokens) (b : Items) (k : Frames) (ts : Tokens) (x : QueryToken) (r : Role) → role x.kind ≡ r
    → Waits l h b k ts → Under b k r → Stands l (ts ++ (x ∷ [])) (start written l h b k x r)
starts l h b k ts x r is waits under = begins_at l h b k ts x r (opens (around written k) r) is waits under refl

-- a filter is read
pub record Has (l : ℕ) (h : List QueryToken) (b : Items) (v : ℕ) (p : Phrase) (k : Frames) (ts : List QueryToken) : Type 0 where
  pub heads_ : heading h ≡ Some Over
  pub all : AllFit l b
  pub good : Good l b k
  pub leveled : v ≡ level p
  pub fits : Fits l (depth written k) (around written k) p
  pub low : due written k ≤ level p
  pub under : Under b k (role (head p).kind)
  pub spelled : h ++ (items_text b ++ (stack_text k ++ text p)) ≡ ts

joins_to : (l : ℕ) (h : Tokens) (b : Items) (v : ℕ) (p : Phrase) (k : Frames) (ts : Tokens) (x : QueryToken) (o : Option InfixOperator)
    → Has l h b v p k ts → IsOver p (role x.kind) → joint (role x.kind) ≡ o
    → elim o [ Some j ↦ nat_le (due written k) (infix_level j) | None ↦ false ] ≡ true
    → Stands l (ts ++ (x ∷ [])) (join written h b v p k x o)
joins_to l h b v p k ts x None has over is low = tt
joins_to l h b v p k ts x (Some j) has over is low = split l (ts ++ (x ∷ [])) (takes j v) (Reading h b (Joining v p x j ∷ k)) Stuck
    (λ takes_. record {
      heads_ = has.heads_;
      fits = has.all;
      good = (
        record {
          is = is;
          takes_ = takes_;
          leveled = has.leveled;
          over = over;
          fits = has.fits;
          low = true_le _ _ low;
          under =
              has.under;
        },
        has.good,
      );
      fresh = λ q. tt;
      spelled = two_more h (items_text b) (stack_text k) (text p) ts (x ∷ []) has.spelled;
    })
    (λ e. tt)

items_end : (l : ℕ) (h : Tokens) (b : Items) (p : Phrase) (ts : Tokens) (x : QueryToken) (r : Role) → role x.kind ≡ r
    → Waits l h (more b p) [] ts → AllOver (more b p) r → h ++ (items_text b ++ text p) ≡ ts
    → Stands l (ts ++ (x ∷ [])) (after_item written l h (more b p) x r)
items_end l h b p ts x End is waits over spelled = record {
  query = record {
    opening = h;
    items = more b p;
    closing = x;
    opens = waits.heads_;
    some = tt;
    fits = waits.fits;
    over = over;
    closes = is;
    spelled = end_text h (items_text b) (text p) ts (x ∷ []) spelled;
  };
  opening_is = refl;
  items_is = refl;
}
items_end l h b p ts x (Word w) is waits over spelled = starts l h (more b p) [] ts x (Word w) is waits over
items_end l h b p ts x (Sign w) is waits over spelled = starts l h (more b p) [] ts x (Sign w) is waits over
items_end l h b p ts x (Number n) is waits over spelled = starts l h (more b p) [] ts x (Number n) is waits over
items_end l h b p ts x Name is waits over spelled = starts l h (more b p) [] ts x Name is waits over
items_end l h b p ts x Text is waits over spelled = starts l h (more b p) [] ts x Text is waits over
items_end l h b p ts x FileName is waits over spelled = starts l h (more b p) [] ts x FileName is waits over
items_end l h b p ts x Outcome is waits over spelled = starts l h (more b p) [] ts x Outcome is waits over
items_end l h b p ts x Designator is waits over spelled = starts l h (more b p) [] ts x Designator is waits over
items_end l h b p ts x Other is waits over spelled = starts l h (more b p) [] ts x Other is waits over

goes_on : (l : ℕ) (h : Tokens) (b : Items) (ps : Parts) (k : Frames) (ts : Tokens) (x : QueryToken) (e : St) (o : Option RuleState) (w : Bool)
    → Waits l h b (InRule ps ∷ k) ts → AreOver ps (role x.kind) → goes (end ps) (role x.kind) ≡ o → whole (end ps) ≡ w
    → (whole (end ps) ≡ true → goes (end ps) (role x.kind) ≡ None → Stands l (ts ++ (x ∷ [])) e)
    → Stands l (ts ++ (x ∷ [])) (onward_by written l h b ps k x (role x.kind) o w e)
goes_on l h b ps k ts x e (Some s) w waits over goes_ is ended = record {
  heads_ = waits.heads_;
  fits = waits.fits;
  good = (record { goes_ = (goes_, over, waits.good.0.goes_); low = waits.good.0.low; under = waits.good.0.under }, waits.good.1);
  fresh = λ q. tt;
  spelled = two_more h (items_text b) (stack_text k) (texts ps) ts (x ∷ []) waits.spelled;
}
goes_on l h b ps k ts x e None true waits over goes_ is ended = ended is goes_
goes_on l h b ps k ts x e None false waits over goes_ is ended =
    starts l h b (InRule ps ∷ k) ts x (role x.kind) refl waits (is, goes_, over)

pub after_stands : (l : ℕ) (h : Tokens) (b : Items) (v : ℕ) (p : Phrase) (k : Frames) (ts : Tokens) (x : QueryToken)
    → Has l h b v p k ts → IsOver p (role x.kind) → Stands l (ts ++ (x ∷ [])) (after written l h b v p k x (role x.kind))
unfolding after
after_stands l h b v p [] ts x has over =
    split l (ts ++ (x ∷ [])) (joins 0 (role x.kind)) (join written h b v p [] x (joint (role x.kind)))
    (after_item written l h (more b p) x (role x.kind))
    (λ low. joins_to l h b v p [] ts x (joint (role x.kind)) has over refl low)
    (λ high. items_end l h b p ts x (role x.kind) refl
    (record {
      heads_ = has.heads_;
      fits = (has.under, has.all, has.fits);
      good = tt;
      spelled =
          item_text h (items_text b) (text p) ts has.spelled;
    }) (over, high) has.spelled)
after_stands l h b v p (Joining e f y j ∷ k) ts x has over =
    split l (ts ++ (x ∷ [])) (joins (infix_level j + 1) (role x.kind))
    (join written h b v p (Joining e f y j ∷ k) x (joint (role x.kind)))
    (after written l h b (infix_level j) (joined f y j p) k x (role x.kind))
    (λ low. joins_to l h b v p (Joining e f y j ∷ k) ts x (joint (role x.kind)) has over refl low)
    (λ high.
    let g = has.good.0 in
    let upper : infix_level j < level p = (let u : infix_level j + 1 ≤ level p = has.low in omega arith) in
    after_stands l h b (infix_level j) (joined f y j p) k ts x (record {
      heads_ = has.heads_;
      all = has.all;
      good = has.good.1;
      leveled = refl;
      fits = (g.is, subst (λ n. takes j n ≡ true) g.leveled g.takes_, upper, g.over, g.fits, has.fits);
      low = g.low;
      under = g.under;
      spelled = joined_text h (items_text b) (stack_text k) (text f) (text p) ts y has.spelled;
    }) (over, high))
after_stands l h b v p (InRule d ∷ k) ts x has over =
    split l (ts ++ (x ∷ [])) (joins (least (end d)) (role x.kind)) (join written h b v p (InRule d ∷ k) x (joint (role x.kind)))
    (onward written l h b (put d p (next (end d))) k x (role x.kind)
    (after written l h b (level_of (root d)) (made (put d p (next (end d)))) k x (role x.kind)))
    (λ low. joins_to l h b v p (InRule d ∷ k) ts x (joint (role x.kind)) has over refl low)
    (λ high.
    let g = has.good.0 in
    let goes_ : Goes l (depth written k) (around written k) (put d p (next (end d))) =
    (refl, has.under.0, has.under.1, has.under.2, has.low, g.goes_, has.fits) in
    let spelled : h ++ (items_text b ++ (stack_text k ++ (texts d ++ text p))) ≡ ts =
    regroup h (items_text b) (stack_text k) (texts d) (text p) ts has.spelled in
    goes_on l h b (put d p (next (end d))) k ts x
    (after written l h b (level_of (root d)) (made (put d p (next (end d)))) k x (role x.kind)) (goes (next (end d)) (role x.kind))
    (whole (next (end d)))
    (record {
      heads_ = has.heads_;
      fits = has.all;
      good = (record { goes_ = goes_; low = g.low; under = g.under }, has.good.1);
      spelled =
          spelled;
    })
    (over, high) refl refl
    (λ ended none_. after_stands l h b (level_of (root d)) (made (put d p (next (end d)))) k ts x (record {
      heads_ = has.heads_;
      all = has.all;
      good = has.good.1;
      leveled = refl;
      fits = (goes_, ended);
      low = g.low;
      under = g.under;
      spelled = spelled;
    }) ((over, high), none_)))

fold_snoc : (ts : List QueryToken) (x : QueryToken) (o : Option HeadState)
    → fold head_step o (ts ++ (x ∷ [])) ≡ head_step (fold head_step o ts) x
fold_snoc [] x o = refl
fold_snoc (t ∷ ts) x o = fold_snoc ts x (head_step o t)

head_snoc : (ts : List QueryToken) (x : QueryToken) → heading (ts ++ (x ∷ [])) ≡ head_step (heading ts) x
head_snoc ts x = fold_snoc ts x (Some Start)

heads_to : (l : ℕ) (h : Tokens) (o : Option HeadState) → heading h ≡ o → Stands l h (head_to written h o)
heads_to l h None is = tt
heads_to l h (Some Start) is = (refl, is)
heads_to l h (Some ListDue) is = (refl, is)
heads_to l h (Some Params) is = (refl, is)
heads_to l h (Some FileDue) is = (refl, is)
heads_to l h (Some MatchDue) is = (refl, is)
heads_to l h (Some Over) is = record { heads_ = is; fits = tt; good = tt; fresh = λ r. tt; spelled = append-nil h }

-- each state has read exactly the tokens so far
pub stands : (l : ℕ) (ts : List QueryToken) (s : St) (x : QueryToken) → Stands l ts s
    → Stands l (ts ++ (x ∷ [])) (feed written l s x)
unfolding feed
stands l ts (Opening h place) x good =
    subst (λ t. Stands l (t ++ (x ∷ [])) (head_to written (h ++ (x ∷ [])) (heads place (role x.kind)))) good.0
    (heads_to l (h ++ (x ∷ [])) (heads place (role x.kind)) (head_snoc h x ∙ ap (λ o. head_step o x) good.1))
stands l ts (Reading h b []) x good =
    starts l h b [] ts x (role x.kind) refl (record { heads_ = good.heads_; fits = good.fits; good = tt; spelled = good.spelled })
    (good.fresh (role x.kind))
stands l ts (Reading h b (Joining v p y j ∷ k)) x good =
    starts l h b (Joining v p y j ∷ k) ts x (role x.kind) refl
    (record { heads_ = good.heads_; fits = good.fits; good = good.good; spelled = good.spelled }) tt
stands l ts (Reading h b (InRule d ∷ k)) x good =
    goes_on l h b d k ts x (after written l h b (level_of (root d)) (made d) k x (role x.kind)) (goes (end d) (role x.kind)) (whole (end d))
    (record { heads_ = good.heads_; fits = good.fits; good = good.good; spelled = good.spelled })
    (good.fresh (role x.kind)) refl refl
    (λ ended none_. after_stands l h b (level_of (root d)) (made d) k ts x (record {
      heads_ = good.heads_;
      all = good.fits;
      good = good.good.1;
      leveled = refl;
      fits = (good.good.0.goes_, ended);
      low = good.good.0.low;
      under = good.good.0.under;
      spelled = good.spelled;
    }) (good.fresh (role x.kind), none_))
stands l ts (Done h b) x good = tt
stands l ts Deep x good = tt
stands l ts Stuck x good = tt

stands_from : (l : ℕ) (a ts : List QueryToken) (s : St) → Stands l a s → Stands l (a ++ ts) (go l s ts)
stands_from l a [] s good = subst (λ t. Stands l t s) (sym (append-nil a)) good
stands_from l a (x ∷ ts) s good =
    subst (λ t. Stands l t (go l (feed written l s x) ts)) (append_assoc a (x ∷ []) ts)
    (stands_from l (a ++ (x ∷ [])) ts (feed written l s x) (stands l a s x good))

pub told : (l : ℕ) (ts : List QueryToken) → Stands l ts (go l (begun written) ts)
told l ts = stands_from l [] ts (begun written) (refl, refl)
