-- The flat items of a query without a fault have the properties of the type of flat queries.
use Rattle.std.proofs.Common.{◌≡◌, ℕ, Bool, true, false, ◌&&◌, ◌||◌, List, [], ◌∷◌, ◌++◌, None, refl, sym, ◌∙◌, map}
use Rattle.std.specs.Prelude.{not, nat_lt, ◌^◌, unwrap_or, if◌then◌else◌}
use Rattle.std.specs.List.{list_all, list_any, flat_map, filter}
use Rattle.std.proofs.lemmas.List.Concat.{flat_map-cons}
use Rattle.cql_syntax.specs.Flat.{flat_all}
use Rattle.cql_syntax.specs.FlatItems.{has_family, kinds_agree, break_no_rule, has_its_kind, breaks_none, is_empty}
use Rattle.cql_syntax.specs.Occurrences.{Occurrence, of_items, all_occurrences}
use Rattle.cql_syntax.specs.TreeFaults.{first, where_it, holds_brace, broken_rules, rule_faults, is_long_line, is_fifth_square, is_family, is_any, bytes_where, tree_faults, tree_fault, has_any}
use Rattle.cql_syntax.specs.Trees.{QueryTree}
use Rattle.cql_syntax.specs.Weights.{query_weight}
use Rattle.cql_syntax.specs.declared.fault.QueryFault.{QueryFault}
use Rattle.cql_syntax.specs.declared.fault.QueryReason.TheVariants.{TextHoldsBrace, LineTooLong, TooManySquares, TooManyMembers}
use Rattle.cql_syntax.proofs.FlatKept.{sound, good, items_good}
use Rattle.cq_common.proofs.SpellingLaw.{left, right, both_true as both}

-- lists without items

none_first : {X : Type 0} (xs : List X) → first xs ≡ None → xs ≡ []
none_first [] h = refl
none_first (x ∷ xs) h = cc

none_before : {X : Type 0} (xs ys : List X) → (xs ++ ys) ≡ [] → xs ≡ []
none_before [] ys h = refl
none_before (x ∷ xs) ys h = cc

none_after : {X : Type 0} (xs ys : List X) → (xs ++ ys) ≡ [] → ys ≡ []
none_after [] ys h = h
none_after (x ∷ xs) ys h = cc

none_mapped : {X A : Type 0} (a : X → A) (xs : List X) → map a xs ≡ [] → is_empty xs ≡ true
none_mapped a [] h = refl
none_mapped a (x ∷ xs) h = cc

not_first : (a b : Bool) → (a || b) ≡ false → not a ≡ true
not_first true b h = sym h
not_first false b h = refl

not_second : (a b : Bool) → (a || b) ≡ false → b ≡ false
not_second true b h = cc
not_second false b h = h

neither : (a b : Bool) → not a ≡ true → b ≡ false → (a || b) ≡ false
neither true b h e = sym h
neither false b h e = e

-- no item passes a test where none is kept by it

none_here : {A : Type 0} (a : ℕ → A) (o : Occurrence) (os : List Occurrence) (b : Bool) → map a (map (λ x. x.at) (if b then o ∷ os else os)) ≡ [] → not b ≡ true
none_here a o os true h = cc
none_here a o os false h = refl

none_later : {A : Type 0} (a : ℕ → A) (o : Occurrence) (os : List Occurrence) (b : Bool) → map a (map (λ x. x.at) (if b then o ∷ os else os)) ≡ []
    → map a (map (λ x. x.at) os) ≡ []
none_later a o os true h = cc
none_later a o os false h = h

none_kept : {A : Type 0} (a : ℕ → A) (test : Occurrence → Bool) (os : List Occurrence) → map a (bytes_where test os) ≡ [] → list_all (λ o. not (test o)) os ≡ true
none_kept a test [] h = refl
none_kept a test (o ∷ os) h =
    both _ _ (none_here a o (filter test os) (test o) h) (none_kept a test os (none_later a o (filter test os) (test o) h))

no_rules : (os : List Occurrence) → flat_map rule_faults os ≡ [] → list_all (λ o. is_empty (broken_rules o)) os ≡ true
no_rules [] h = refl
no_rules (o ∷ os) h =
    let e : (rule_faults o ++ flat_map rule_faults os) ≡ [] = sym (flat_map-cons rule_faults o os) ∙ h in
    both _ _ (none_mapped (λ reason. record { byte = o.at; reason = reason }) (broken_rules o) (none_before (rule_faults o) (flat_map rule_faults os) e))
    (no_rules os (none_after (rule_faults o) (flat_map rule_faults os) e))

none_any : (os : List Occurrence) → list_any (λ o. is_any o.form) os ≡ false → list_all (λ o. not (is_any o.form)) os ≡ true
none_any [] h = refl
none_any (o ∷ os) h = both _ _ (not_first (is_any o.form) _ h) (none_any os (not_second (is_any o.form) _ h))

first_of : (p : Occurrence → Bool) (o : Occurrence) (os : List Occurrence) → list_all p (o ∷ os) ≡ true → p o ≡ true
first_of p o os h = left (p o) (list_all p os) h

others_of : (p : Occurrence → Bool) (o : Occurrence) (os : List Occurrence) → list_all p (o ∷ os) ≡ true → list_all p os ≡ true
others_of p o os h = right (p o) (list_all p os) h

abbrev no_any : Occurrence → Bool
no_any o = not (is_any o.form)

abbrev no_rule : Occurrence → Bool
no_rule o = is_empty (broken_rules o)

abbrev no_line : Occurrence → Bool
no_line o = not (is_long_line o.form)

abbrev no_fifth : Occurrence → Bool
no_fifth o = not (is_fifth_square o.standing.squares o.form)

all_four : (os : List Occurrence) → list_all no_any os ≡ true → list_all no_rule os ≡ true → list_all no_line os ≡ true → list_all no_fifth os ≡ true → list_all sound os ≡ true
all_four [] a b c d = refl
all_four (o ∷ os) a b c d =
    both (sound o) (list_all sound os)
    (both (no_any o) (breaks_none o) (first_of no_any o os a)
    (both (no_rule o && no_line o) (no_fifth o) (both (no_rule o) (no_line o) (first_of no_rule o os b) (first_of no_line o os c)) (first_of no_fifth o os d)))
    (all_four os (others_of no_any o os a) (others_of no_rule o os b) (others_of no_line o os c) (others_of no_fifth o os d))

-- a query without a fault and without `Any` is sound
query_sound : (q : QueryTree) → tree_fault q ≡ None → has_any q ≡ false → list_all sound (of_items 0 q.items) ≡ true
unfolding tree_fault tree_faults has_any
query_sound q fault any =
    let os : List Occurrence = all_occurrences q in
    let brace : List QueryFault = where_it (holds_brace q.match_text) (record { byte = q.match_at; reason = TextHoldsBrace }) in
    let rules : List QueryFault = flat_map rule_faults os in
    let lines : List QueryFault = map (λ byte. record { byte = byte; reason = LineTooLong }) (bytes_where (λ o. is_long_line o.form) os) in
    let squares : List QueryFault = map (λ byte. record { byte = byte; reason = TooManySquares }) (bytes_where (λ o. is_fifth_square o.standing.squares o.form) os) in
    let heavy : List QueryFault = where_it (nat_lt (2 ^ 18) (query_weight q)) (record { byte = unwrap_or (first (bytes_where (λ o. is_family o.form) os)) 0; reason = TooManyMembers }) in
    let all : (brace ++ (rules ++ (lines ++ (squares ++ heavy)))) ≡ [] = none_first _ fault in
    let from_rules : (rules ++ (lines ++ (squares ++ heavy))) ≡ [] = none_after brace _ all in
    let from_lines : (lines ++ (squares ++ heavy)) ≡ [] = none_after rules _ from_rules in
    let from_squares : (squares ++ heavy) ≡ [] = none_after lines _ from_lines in
    all_four os (none_any os any) (no_rules os (none_before rules _ from_rules))
    (none_kept (λ byte. record { byte = byte; reason = LineTooLong }) (λ o. is_long_line o.form) os (none_before lines _ from_lines))
    (none_kept (λ byte. record { byte = byte; reason = TooManySquares }) (λ o. is_fifth_square o.standing.squares o.form) os (none_before squares heavy from_squares))

-- a good filter has all three properties

no_families : (os : List Occurrence) → list_all good os ≡ true → list_any (λ o. is_family o.form) os ≡ false
no_families [] h = refl
no_families (o ∷ os) h = neither (is_family o.form) _ (left _ _ (left _ _ (left _ _ h))) (no_families os (right _ _ h))

all_kinds : (os : List Occurrence) → list_all good os ≡ true → list_all (λ o. has_its_kind o.form) os ≡ true
all_kinds [] h = refl
all_kinds (o ∷ os) h = both _ _ (right _ _ (left _ _ (left _ _ h))) (all_kinds os (right _ _ h))

all_rules : (os : List Occurrence) → list_all good os ≡ true → list_all breaks_none os ≡ true
all_rules [] h = refl
all_rules (o ∷ os) h = both _ _ (right _ _ (left _ _ h)) (all_rules os (right _ _ h))

pub flat_families : (q : QueryTree) → tree_fault q ≡ None → has_any q ≡ false → has_family (flat_all [] q.items) ≡ false
unfolding has_family
flat_families q fault any = no_families (of_items 0 (flat_all [] q.items)) (items_good q.items 0 (query_sound q fault any))

pub flat_kinds : (q : QueryTree) → tree_fault q ≡ None → has_any q ≡ false → kinds_agree (flat_all [] q.items) ≡ true
unfolding kinds_agree
flat_kinds q fault any = all_kinds (of_items 0 (flat_all [] q.items)) (items_good q.items 0 (query_sound q fault any))

pub flat_rules : (q : QueryTree) → tree_fault q ≡ None → has_any q ≡ false → break_no_rule (flat_all [] q.items) ≡ true
unfolding break_no_rule
flat_rules q fault any = all_rules (of_items 0 (flat_all [] q.items)) (items_good q.items 0 (query_sound q fault any))
