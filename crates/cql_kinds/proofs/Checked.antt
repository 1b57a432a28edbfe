-- The fault of a query, from the results of the walks over its filters.
use Rattle.std.proofs.Common.{◌≡◌, ℕ, Bool, true, false, List, [], ◌∷◌, ◌++◌, map, nat_lt, unwrap_or, Option, Some, None, Ok, Err, refl, ◌∙◌, ap, ap₂}
use Rattle.std.specs.List.{flat_map}
use Rattle.std.specs.Option.{option_or}
use Rattle.cq_common.specs.Refusals.{Refuses}
use Rattle.cq_common.specs.declared.faults.Refusal.{Refusal}
use Rattle.cq_common.specs.declared.faults.Refusal.TheVariants.{Fault, NoMemory}
use Rattle.cql_syntax.specs.Limits.{most_weight}
use Rattle.cql_syntax.specs.Occurrences.{Occurrence, all_occurrences}
use Rattle.cql_syntax.specs.TreeFaults.{first, where_it, ok_unless, holds_brace, rule_faults, is_long_line, is_fifth_square, is_family, bytes_where, tree_faults, tree_fault, checked}
use Rattle.cql_syntax.specs.Trees.{QueryTree}
use Rattle.cql_syntax.specs.Weights.{query_weight}
use Rattle.cql_syntax.specs.declared.fault.QueryFault.{QueryFault}
use Rattle.cql_syntax.specs.declared.fault.QueryReason.{QueryReason}
use Rattle.cql_syntax.specs.declared.fault.QueryReason.TheVariants.{TextHoldsBrace, LineTooLong, TooManyMembers, TooManySquares}
use Rattle.cql_kinds.specs.declared.first_breaches.FirstBreaches.{FirstBreaches}
use Rattle.cql_kinds.specs.Internal.Walks.{no_breaches, with_breaches, walk_result, fault_at, limit_fault}
use Rattle.cql_kinds.proofs.Walking.{first_append, no_fault, a_fault}

pub text_fault : (q : QueryTree) → holds_brace q.match_text ≡ true → checked q ≡ Err (record { byte = q.match_at; reason = TextHoldsBrace })
unfolding tree_fault tree_faults
text_fault q is =
    let rest : List QueryFault = flat_map rule_faults (all_occurrences q)
    ++ (map (λ byte. record { byte = byte; reason = LineTooLong }) (bytes_where (λ o. is_long_line o.form) (all_occurrences q))
    ++ (map (λ byte. record { byte = byte; reason = TooManySquares }) (bytes_where (λ o. is_fifth_square o.standing.squares o.form) (all_occurrences q))
    ++ where_it (nat_lt most_weight (query_weight q))
    (record { byte = unwrap_or (first (bytes_where (λ o. is_family o.form) (all_occurrences q))) 0; reason = TooManyMembers }))) in
    ap (λ braced. ok_unless q (first (where_it braced (record { byte = q.match_at; reason = TextHoldsBrace }) ++ rest))) is

first_at : (reason : QueryReason) (bytes : List ℕ) → first (map (λ byte. record { byte = byte; reason = reason }) bytes) ≡ fault_at reason (first bytes)
first_at reason [] = refl
first_at reason (byte ∷ bytes) = refl

abbrev limits : List Occurrence → Bool → List QueryFault
limits all heavy =
    map (λ byte. record { byte = byte; reason = LineTooLong }) (bytes_where (λ o. is_long_line o.form) all)
    ++ (map (λ byte. record { byte = byte; reason = TooManySquares }) (bytes_where (λ o. is_fifth_square o.standing.squares o.form) all)
    ++ where_it heavy (record { byte = unwrap_or (first (bytes_where (λ o. is_family o.form) all)) 0; reason = TooManyMembers }))

first_limit : (all : List Occurrence) (heavy : Bool) → first (limits all heavy) ≡ limit_fault (with_breaches no_breaches all) heavy
first_limit all heavy =
    first_append (map (λ byte. record { byte = byte; reason = LineTooLong }) (bytes_where (λ o. is_long_line o.form) all)) _
    ∙ ap₂ option_or (first_at LineTooLong (bytes_where (λ o. is_long_line o.form) all))
    (first_append (map (λ byte. record { byte = byte; reason = TooManySquares }) (bytes_where (λ o. is_fifth_square o.standing.squares o.form) all)) _
    ∙ ap (λ fault. option_or fault (first (where_it heavy (record { byte = unwrap_or (first (bytes_where (λ o. is_family o.form) all)) 0; reason = TooManyMembers }))))
    (first_at TooManySquares (bytes_where (λ o. is_fifth_square o.standing.squares o.form) all)))

-- a match string without a closing brace
after_text : (q : QueryTree) → holds_brace q.match_text ≡ false →
    tree_fault q ≡ option_or (first (flat_map rule_faults (all_occurrences q))) (first (limits (all_occurrences q) (nat_lt most_weight (query_weight q))))
unfolding tree_fault tree_faults
after_text q is =
    ap (λ braced. first (where_it braced (record { byte = q.match_at; reason = TextHoldsBrace })
    ++ (flat_map rule_faults (all_occurrences q) ++ limits (all_occurrences q) (nat_lt most_weight (query_weight q))))) is
    ∙ first_append (flat_map rule_faults (all_occurrences q)) (limits (all_occurrences q) (nat_lt most_weight (query_weight q)))

pub rule_fault : (q : QueryTree) (refusal : Refusal QueryFault) → holds_brace q.match_text ≡ false →
    Refuses {Y = FirstBreaches} refusal (walk_result no_breaches (all_occurrences q)) → Refuses {Y = QueryTree} refusal (checked q)
unfolding walk_result
rule_fault q (Fault fault) is found =
    ap (ok_unless q) (after_text q is ∙ ap (λ o. option_or o (first (limits (all_occurrences q) (nat_lt most_weight (query_weight q)))))
    (a_fault (with_breaches no_breaches (all_occurrences q)) fault (first (flat_map rule_faults (all_occurrences q))) found))
rule_fault q NoMemory is found = tt

pub limit_is : (q : QueryTree) (firsts : FirstBreaches) → holds_brace q.match_text ≡ false →
    walk_result no_breaches (all_occurrences q) ≡ Ok firsts → tree_fault q ≡ limit_fault firsts (nat_lt most_weight (query_weight q))
unfolding walk_result
limit_is q firsts is found =
    let none = no_fault (with_breaches no_breaches (all_occurrences q)) firsts (first (flat_map rule_faults (all_occurrences q))) found in
    after_text q is ∙ ap (λ o. option_or o (first (limits (all_occurrences q) (nat_lt most_weight (query_weight q))))) none.0
    ∙ first_limit (all_occurrences q) (nat_lt most_weight (query_weight q))
    ∙ ap (λ f. limit_fault f (nat_lt most_weight (query_weight q))) none.1

pub none_from : {X : Type 0} (o : Option X) → ((x : X) → o ≡ Some x → ⊥) → o ≡ None
none_from None h = refl
none_from (Some x) h = absurd (h x refl)
