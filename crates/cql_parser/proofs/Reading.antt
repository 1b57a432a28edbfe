-- The code reads exactly as the grammar does.
use Rattle.std.proofs.Common.{◌≡◌, inl, inr, ℕ, ◌+◌, ◌<◌, ◌≤◌, List, [], ◌∷◌, ◌++◌, Bool, true, false, refl, sym, ap, ap₂, ◌∙◌, subst, take, drop, length, get_or, append_assoc, append-nil, ◌⊎◌, Result, Ok, Err, IfOk}
use Rattle.std.proofs.lemmas.List.{take_all, take_more, take-append-drop}
use Rattle.cql_syntax.specs.Limits.{most_open}
use Rattle.cq_common.specs.declared.faults.NoMemory.{NoMemory}
use Rattle.cql_syntax.specs.Trees.{FilterTrees, QueryTree}
use Rattle.cql_syntax.specs.declared.fault.QueryFault.{QueryFault}
use Rattle.cql_syntax.specs.declared.token.QueryToken.{QueryToken}
use Rattle.cql_syntax.specs.declared.token.QueryTokenKind.{QueryTokenKind}
use Rattle.cql_syntax.specs.declared.token.QueryTokenKind.TheVariants.{Word, Reserved, Name, Squares, Number, Text, FileName, Outcome, Mark, End}
use Rattle.cql_parser.specs.declared.parser.ParserState.{ParserState}
use Rattle.cql_parser.specs.declared.parser.ParserState.TheVariants as reached
use Rattle.cql_parser.specs.declared.parser.Parser.{Parser}
use Rattle.cql_parser.specs.declared.role.Role.{Role}
use Rattle.cql_parser.specs.RuleStates.{least, joint, infix_level, joins}
use Rattle.cql_parser.specs.Grammar.{IsGrammaticalPrefix, Items}
use Rattle.cql_parser.specs.PartialFilters.{Node, opening, trees, query_of, Spells, Opening as Head}
use Rattle.cql_parser.specs.Faults.{IsEnded, IsReason, IsFault}
use Rattle.cql_parser.specs.Internal.Machine.{Frame, InRule, Joining, Opening, Reading, Done, Deep, Stuck, due, choose, join, after, feed, begun, written}
use Rattle.cql_parser.specs.Internal.TreeBuilder.{OpenRule, tree_builder}
use Rattle.cql_parser.specs.Internal.ParserStates.{MachineState, head_in, items_in, frames_in, state_model, at_start, is_fault, reason_of, query_in}
use Rattle.cql_parser.proofs.Answer.{stuck_is_dead, deep_is_dead, living_begins, done_spells}
use Rattle.cql_parser.proofs.Begun.{Lives}
use Rattle.cql_parser.proofs.Ends.{end_is_done}
use Rattle.cql_parser.proofs.Limits.{deep_begins, stuck_never_begins}
use Rattle.cql_parser.proofs.TreeBuilder.{plant, Leveled, StateLeveled, plant_feed}
use Rattle.cql_parser.proofs.Read.{Frames, St, go, go_append}
use Rattle.cql_parser.proofs.ReadIsWritten.{Good, Stands, told}

-- the state after tokens, by the grammar
abbrev pub read : List QueryToken → St
read ts = go most_open (begun written) ts

-- the code reads what the grammar reads
pub record Keeps (ts : List QueryToken) (state : ParserState) (reader : Parser) : Type 0 where
  pub same : plant (read ts) ≡ state_model state reader
  pub lives : Lives (read ts)

leveled : (l : ℕ) (b : Items) (k : Frames) → Good l b k → Leveled k
leveled l b [] good = tt
leveled l b (InRule ps ∷ k) good = leveled l b k good.1
leveled l b (Joining v p x j ∷ k) good = (good.0.leveled, leveled l b k good.1)

state_leveled : (l : ℕ) (ts : List QueryToken) (s : St) → Stands l ts s → StateLeveled s
state_leveled l ts (Opening h place) good = tt
state_leveled l ts (Reading h b k) good = leveled l b k good.good
state_leveled l ts (Done h b) good = tt
state_leveled l ts Deep good = tt
state_leveled l ts Stuck good = tt

feeds : (ts : List QueryToken) (x : QueryToken) → read (ts ++ (x ∷ [])) ≡ feed written most_open (read ts) x
feeds ts x = go_append most_open (begun written) ts (x ∷ [])

-- one token more
pub same_on : (ts : List QueryToken) (x : QueryToken) (s u : ParserState) (old new : Parser) → plant (read ts) ≡ state_model s old
    → state_model u new ≡ feed tree_builder most_open (state_model s old) x → plant (read (ts ++ (x ∷ []))) ≡ state_model u new
same_on ts x s u old new same fed =
    ap plant (feeds ts x) ∙ sym (plant_feed most_open (read ts) x (state_leveled most_open ts (read ts) (told most_open ts)))
    ∙ ap (λ v. feed tree_builder most_open v x) same ∙ sym fed

-- the code's state shows that reading goes on
abbrev Living : MachineState → Type 0
Living (Opening h place) = Unit {0}
Living (Reading h b k) = Unit {0}
Living (Done h b) = Unit {0}
Living Deep = ⊥
Living Stuck = ⊥

living_shown : (s : ParserState) (r : Parser) → is_fault s ≡ false → Living (state_model s r)
living_shown (reached.Opening place) r fine = tt
living_shown reached.Reading r fine = tt
living_shown reached.Done r fine = tt
living_shown reached.Deep r fine = cc
living_shown reached.Stuck r fine = cc

living_lives : (s : St) → Living (plant s) → Lives s
living_lives (Opening h place) live = tt
living_lives (Reading h b k) live = tt
living_lives (Done h b) live = tt
living_lives Deep live = live
living_lives Stuck live = live

pub kept_on : (ts : List QueryToken) (x : QueryToken) (s u : ParserState) (old new : Parser) → Keeps ts s old
    → state_model u new ≡ feed tree_builder most_open (state_model s old) x → is_fault u ≡ false → Keeps (ts ++ (x ∷ [])) u new
kept_on ts x s u old new keeps fed fine =
    let same : plant (read (ts ++ (x ∷ []))) ≡ state_model u new = same_on ts x s u old new keeps.same fed in
    record { same = same; lives = living_lives (read (ts ++ (x ∷ []))) (subst Living (sym same) (living_shown u new fine)) }

pub kept_first : (r : Parser) → state_model at_start r ≡ begun tree_builder → Keeps [] at_start r
kept_first r is = record { same = sym is; lives = tt }

-- the fault at a token
plant_deep : (s : St) → plant s ≡ Deep → s ≡ Deep
plant_deep (Opening h place) is = cc
plant_deep (Reading h b k) is = cc
plant_deep (Done h b) is = cc
plant_deep Deep is = refl
plant_deep Stuck is = cc

plant_stuck : (s : St) → plant s ≡ Stuck → s ≡ Stuck
plant_stuck (Opening h place) is = cc
plant_stuck (Reading h b k) is = cc
plant_stuck (Done h b) is = cc
plant_stuck Deep is = cc
plant_stuck Stuck is = refl

too_deep : (ts : List QueryToken) (kind : QueryTokenKind) → (limit : ℕ) × IsGrammaticalPrefix limit ts
    → IsReason ts kind (reason_of kind reached.Deep)
too_deep ts (Reserved name) some = refl
too_deep ts End some = refl
too_deep ts (Word w) some = inl (refl, some.0, some.1)
too_deep ts (Name n) some = inl (refl, some.0, some.1)
too_deep ts (Squares d) some = inl (refl, some.0, some.1)
too_deep ts (Number n) some = inl (refl, some.0, some.1)
too_deep ts (Text t) some = inl (refl, some.0, some.1)
too_deep ts (FileName n) some = inl (refl, some.0, some.1)
too_deep ts (Outcome o) some = inl (refl, some.0, some.1)
too_deep ts (Mark m) some = inl (refl, some.0, some.1)

unexpected : (ts : List QueryToken) (kind : QueryTokenKind) → ((limit : ℕ) → IsGrammaticalPrefix limit ts → ⊥)
    → IsReason ts kind (reason_of kind reached.Stuck)
unexpected ts (Reserved name) never = refl
unexpected ts End never = refl
unexpected ts (Word w) never = inr (refl, never)
unexpected ts (Name n) never = inr (refl, never)
unexpected ts (Squares d) never = inr (refl, never)
unexpected ts (Number n) never = inr (refl, never)
unexpected ts (Text t) never = inr (refl, never)
unexpected ts (FileName n) never = inr (refl, never)
unexpected ts (Outcome o) never = inr (refl, never)
unexpected ts (Mark m) never = inr (refl, never)

-- a token at which the reader comes to a fault
pub record FailsAt (x : QueryToken) (s u : ParserState) (old new : Parser) (f : QueryFault) : Type 0 where
  pub fed : state_model u new ≡ feed tree_builder most_open (state_model s old) x
  pub fails : is_fault u ≡ true
  pub byte : f.byte ≡ x.at
  pub reason : f.reason ≡ reason_of x.kind u

pub fault_at : (ts rest : List QueryToken) (x : QueryToken) (s u : ParserState) (old new : Parser) (f : QueryFault) → Keeps ts s old
    → FailsAt x s u old new f → IsFault (ts ++ (x ∷ rest)) f
fault_at ts rest x s (reached.Opening place) old new f keeps end = absurd (let e : false ≡ true = end.fails in cc)
fault_at ts rest x s reached.Reading old new f keeps end = absurd (let e : false ≡ true = end.fails in cc)
fault_at ts rest x s reached.Done old new f keeps end = absurd (let e : false ≡ true = end.fails in cc)
fault_at ts rest x s reached.Deep old new f keeps end =
    let is : read (ts ++ (x ∷ [])) ≡ Deep = plant_deep (read (ts ++ (x ∷ []))) (same_on ts x s reached.Deep old new keeps.same end.fed) in
    record {
      before = ts;
      token = x;
      rest = rest;
      spelled = refl;
      begins = living_begins most_open ts keeps.lives;
      dead = deep_is_dead most_open (ts ++ (x ∷ [])) is;
      byte = end.byte;
      reason = subst (IsReason (ts ++ (x ∷ [])) x.kind) (sym end.reason)
          (too_deep (ts ++ (x ∷ [])) x.kind (deep_begins most_open ts x keeps.lives (sym (feeds ts x) ∙ is)));
    }
fault_at ts rest x s reached.Stuck old new f keeps end =
    let is : read (ts ++ (x ∷ [])) ≡ Stuck =
    plant_stuck (read (ts ++ (x ∷ []))) (same_on ts x s reached.Stuck old new keeps.same end.fed) in
    record {
      before = ts;
      token = x;
      rest = rest;
      spelled = refl;
      begins = living_begins most_open ts keeps.lives;
      dead = stuck_is_dead most_open (ts ++ (x ∷ [])) is;
      byte = end.byte;
      reason = subst (IsReason (ts ++ (x ∷ [])) x.kind) (sym end.reason)
          (unexpected (ts ++ (x ∷ [])) x.kind (stuck_never_begins most_open ts x keeps.lives (sym (feeds ts x) ∙ is)));
    }

-- a list from a place on
pub split_at : (ts : List QueryToken) (i : ℕ) (d : QueryToken) → i < length ts
    → take i ts ++ (get_or ts i d ∷ drop (i + 1) ts) ≡ ts
split_at ts i d low =
    sym (append_assoc (take i ts) (get_or ts i d ∷ []) (drop (i + 1) ts)) ∙ ap (λ t. t ++ drop (i + 1) ts) (sym (take_more ts i d low))
    ∙ take-append-drop (i + 1) ts

-- the query at the end
query_is : (s : ParserState) (r : Parser) (h : Head) (b : FilterTrees) → Done h b ≡ state_model s r
    → (h ≡ head_in r) × (b ≡ items_in r)
query_is (reached.Opening place) r h b is = absurd (let g : Done h b ≡ Opening (head_in r) place = is in cc)
query_is reached.Reading r h b is = absurd cc
query_is reached.Done r h b is = (cc, cc)
query_is reached.Deep r h b is = absurd cc
query_is reached.Stuck r h b is = absurd cc

pub all_read : (ts : List QueryToken) (s : ParserState) (r : Parser) → IsEnded ts → Keeps ts s r → Spells most_open ts (query_in r)
all_read ts s r ended keeps =
    let done = end_is_done most_open ts ended keeps.lives in
    let found = query_is s r (opening done.0) (trees done.1) (sym (ap plant done.2) ∙ keeps.same) in
    subst (Spells most_open ts) (ap₂ (λ (o : Head) (fs : FilterTrees). record {
      variations = o.variations;
      match_at = o.match_at;
      match_text =
          o.match_text;
      items = fs;
    }) found.0 found.1)
    (done_spells most_open ts done.0 done.1 done.2)

-- along the list of tokens
pub kept_more : (ts : List QueryToken) (i : ℕ) (x : QueryToken) (s u : ParserState) (old new : Parser) → i < length ts
    → x ≡ get_or ts i x → Keeps (take i ts) s old → state_model u new ≡ feed tree_builder most_open (state_model s old) x
    → is_fault u ≡ false → Keeps (take (i + 1) ts) u new
kept_more ts i x s u old new low is keeps fed fine =
    subst (λ t. Keeps t u new) (ap (λ y. take i ts ++ (y ∷ [])) is
    ∙ sym (take_more ts i x low)) (kept_on (take i ts) x s u old new keeps fed fine)

pub fault_here : (ts : List QueryToken) (i : ℕ) (x : QueryToken) (s u : ParserState) (old new : Parser) (f : QueryFault) → i < length ts
    → x ≡ get_or ts i x → Keeps (take i ts) s old → FailsAt x s u old new f → IsFault ts f
fault_here ts i x s u old new f low is keeps end =
    subst (λ t. IsFault t f) (ap (λ y. take i ts ++ (y ∷ drop (i + 1) ts)) is
    ∙ split_at ts i x low) (fault_at (take i ts) (drop (i + 1) ts) x s u old new f keeps end)

pub query_here : (ts : List QueryToken) (i : ℕ) (s : ParserState) (r : Parser) (q : QueryTree) → length ts ≤ i → IsEnded ts
    → Keeps (take i ts) s r → q ≡ query_in r → Spells most_open ts q
query_here ts i s r q all ended keeps is =
    subst (Spells most_open ts) (sym is) (all_read ts s r ended (subst (λ t. Keeps t s r) (take_all i ts all) keeps))

-- a token that joins a filter to the next one
choose_true : {S : Type 0} (t : Bool) (s u : S) → t ≡ true → choose t s u ≡ s
choose_true true s u is = refl
choose_true false s u is = absurd cc

pub after_joins : (h : Head) (b : FilterTrees) (v : ℕ) (a : Node) (k : List (Frame OpenRule Node)) (x : QueryToken) (r : Role)
    → joins (due tree_builder k) r ≡ true → after tree_builder most_open h b v a k x r ≡ join tree_builder h b v a k x (joint r)
unfolding after
after_joins h b v a [] x r is = choose_true (joins 0 r) _ _ is
after_joins h b v a (Joining e f y j ∷ k) x r is = choose_true (joins (infix_level j + 1) r) _ _ is
after_joins h b v a (InRule d ∷ k) x r is = choose_true (joins (least d.end) r) _ _ is

pub joined_after : (result : Result ParserState NoMemory) (new old : Parser) (v : ℕ) (a : Node) (x : QueryToken) (r : Role) (u : MachineState)
    → joins (due tree_builder (frames_in old)) r ≡ true → after tree_builder most_open (head_in old) (items_in old) v a (frames_in old) x r ≡ u
    → IfOk result (λ s. (y : QueryToken)
    → state_model s new ≡ join tree_builder (head_in old) (items_in old) v a (frames_in old) y (joint r))
    → IfOk result (λ s. state_model s new ≡ u)
joined_after (Ok s) new old v a x r u yes_ is ok = ok x ∙ sym (after_joins (head_in old) (items_in old) v a (frames_in old) x r yes_)
    ∙ is
joined_after (Err e) new old v a x r u yes_ is ok = tt

-- tokens that are ended spell a query or have a fault
abbrev pub HasOutcome : List QueryToken → Type 0
HasOutcome ts = ((q : QueryTree) × Spells most_open ts q) ⊎ ((f : QueryFault) × IsFault ts f)

outcome_on : (ts rest : List QueryToken) (x : QueryToken) (s : St) → read (ts ++ (x ∷ [])) ≡ s → Lives (read ts)
    → (Lives s → HasOutcome (ts ++ (x ∷ rest))) → HasOutcome (ts ++ (x ∷ rest))
outcome_on ts rest x (Opening h place) is lives on = on tt
outcome_on ts rest x (Reading h b k) is lives on = on tt
outcome_on ts rest x (Done h b) is lives on = on tt
outcome_on ts rest x Deep is lives on = inr (
  record { byte = x.at; reason = reason_of x.kind reached.Deep },
  record {
    before = ts;
    token = x;
    rest = rest;
    spelled = refl;
    begins = living_begins most_open ts lives;
    dead = deep_is_dead most_open (ts ++ (x ∷ [])) is;
    byte = refl;
    reason = too_deep (ts ++ (x ∷ [])) x.kind (deep_begins most_open ts x lives (sym (feeds ts x) ∙ is));
  },
)
outcome_on ts rest x Stuck is lives on = inr (
  record { byte = x.at; reason = reason_of x.kind reached.Stuck },
  record {
    before = ts;
    token = x;
    rest = rest;
    spelled = refl;
    begins = living_begins most_open ts lives;
    dead = stuck_is_dead most_open (ts ++ (x ∷ [])) is;
    byte = refl;
    reason = unexpected (ts ++ (x ∷ [])) x.kind (stuck_never_begins most_open ts x lives (sym (feeds ts x) ∙ is));
  },
)

pub outcome_from : (ts rest : List QueryToken) → Lives (read ts) → IsEnded (ts ++ rest) → HasOutcome (ts ++ rest)
outcome_from ts [] lives ended =
    let done = end_is_done most_open ts (subst IsEnded (append-nil ts) ended) lives in
    subst HasOutcome (sym (append-nil ts)) (inl (query_of (opening done.0) done.1, done_spells most_open ts done.0 done.1 done.2))
outcome_from ts (x ∷ rest) lives ended =
    outcome_on ts rest x (read (ts ++ (x ∷ []))) refl lives
    (λ live. subst HasOutcome (append_assoc ts (x ∷ []) rest)
    (outcome_from (ts ++ (x ∷ [])) rest live (subst IsEnded (sym (append_assoc ts (x ∷ []) rest)) ended)))

pub has_outcome : (ts : List QueryToken) → IsEnded ts → HasOutcome ts
has_outcome ts ended = outcome_from [] ts tt ended
