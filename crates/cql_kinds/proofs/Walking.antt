-- The result of a walk over filters in a row is that of the first one and then of the others.
use Rattle.std.proofs.Common.{◌≡◌, ℕ, Bool, List, [], ◌∷◌, ◌++◌, map, filter, Option, Some, None, Result, Ok, Err, refl, sym, ◌∙◌, ap, ap₂}
use Rattle.std.proofs.lemmas.List.{map-append}
use Rattle.std.proofs.lemmas.List.Elements.{filter-append}
use Rattle.std.proofs.lemmas.Grind.{flat_map-append}
use Rattle.std.specs.List.{flat_map}
use Rattle.std.specs.Option.{option_or}
use Rattle.cq_common.specs.Refusals.{Refuses, Gives}
use Rattle.cq_common.specs.declared.faults.Refusal.{Refusal}
use Rattle.cq_common.specs.declared.faults.Refusal.TheVariants.{Fault, NoMemory}
use Rattle.cql_syntax.specs.Occurrences.{Occurrence, TypingContext, occurrences, inner}
use Rattle.cql_syntax.specs.Trees.{FormTree, filter_at}
use Rattle.cql_syntax.specs.TreeFaults.{first, ok_unless, rule_faults, broken_rules, is_long_line, is_fifth_square, is_family, bytes_where}
use Rattle.cql_syntax.specs.declared.fault.QueryFault.{QueryFault}
use Rattle.cql_syntax.specs.declared.fault.QueryReason.{QueryReason}
use Rattle.cql_kinds.specs.declared.first_breaches.FirstBreaches.{FirstBreaches}
use Rattle.cql_kinds.specs.Internal.Walks.{or_first, with_breaches, walk_result}

pub first_append : {X : Type 0} (xs ys : List X) → first (xs ++ ys) ≡ option_or (first xs) (first ys)
first_append [] ys = refl
first_append (x ∷ xs) ys = refl

or_first_append : (byte : Option ℕ) (xs ys : List ℕ) → or_first (or_first byte xs) ys ≡ or_first byte (xs ++ ys)
or_first_append (Some byte) xs ys = refl
or_first_append None [] ys = refl
or_first_append None (x ∷ xs) ys = refl

bytes_append : (test : Occurrence → Bool) (xs ys : List Occurrence) → bytes_where test (xs ++ ys) ≡ bytes_where test xs ++ bytes_where test ys
bytes_append test xs ys = ap (map (λ o. o.at)) (filter-append test xs ys) ∙ map-append (λ o. o.at) (filter test xs) (filter test ys)

noted_append : (byte : Option ℕ) (test : Occurrence → Bool) (xs ys : List Occurrence) →
    or_first (or_first byte (bytes_where test xs)) (bytes_where test ys) ≡ or_first byte (bytes_where test (xs ++ ys))
noted_append byte test xs ys =
    or_first_append byte (bytes_where test xs) (bytes_where test ys) ∙ sym (ap (or_first byte) (bytes_append test xs ys))

abbrev pub firsts_of : Option ℕ → Option ℕ → Option ℕ → FirstBreaches
firsts_of line square family = record { line = line; square = square; family = family }

alike : (a b c d e f : Option ℕ) → a ≡ d → b ≡ e → c ≡ f → firsts_of a b c ≡ firsts_of d e f
alike a b c d e f p q r = ap₂ (λ x y. firsts_of x y c) p q ∙ ap (firsts_of d e) r

with_firsts_append : (firsts : FirstBreaches) (xs ys : List Occurrence) → with_breaches (with_breaches firsts xs) ys ≡ with_breaches firsts (xs ++ ys)
with_firsts_append firsts xs ys =
    alike _ _ _ _ _ _ (noted_append firsts.line (λ o. is_long_line o.form) xs ys) (noted_append firsts.square (λ o. is_fifth_square o.standing.squares o.form) xs ys)
    (noted_append firsts.family (λ o. is_family o.form) xs ys)

rules_append : (xs ys : List Occurrence) → first (flat_map rule_faults (xs ++ ys)) ≡ option_or (first (flat_map rule_faults xs)) (first (flat_map rule_faults ys))
rules_append xs ys = ap first (flat_map-append rule_faults xs ys) ∙ first_append (flat_map rule_faults xs) (flat_map rule_faults ys)

pub no_fault : {X E : Type 0} (x y : X) (fault : Option E) → ok_unless x fault ≡ Ok y → (fault ≡ None) × (x ≡ y)
no_fault x y None is = (refl, cc)
no_fault x y (Some fault) is = cc

pub a_fault : {X E : Type 0} (x : X) (e : E) (fault : Option E) → ok_unless x fault ≡ Err e → fault ≡ Some e
a_fault x e None is = cc
a_fault x e (Some fault) is = cc

-- filters without a fault, and then more
pub walked_done : (firsts found : FirstBreaches) (xs ys : List Occurrence) → walk_result firsts xs ≡ Ok found → walk_result firsts (xs ++ ys) ≡ walk_result found ys
unfolding walk_result
walked_done firsts found xs ys is =
    let none = no_fault (with_breaches firsts xs) found (first (flat_map rule_faults xs)) is in
    ap₂ ok_unless (sym (with_firsts_append firsts xs ys) ∙ ap (λ f. with_breaches f ys) none.1)
    (rules_append xs ys ∙ ap (λ fault. option_or fault (first (flat_map rule_faults ys))) none.0)

-- a fault stays the first
pub walked_failed : (firsts : FirstBreaches) (fault : QueryFault) (xs ys : List Occurrence) → walk_result firsts xs ≡ Err fault → walk_result firsts (xs ++ ys) ≡ Err fault
unfolding walk_result
walked_failed firsts fault xs ys is =
    ap (ok_unless (with_breaches firsts (xs ++ ys)))
    (rules_append xs ys ∙ ap (λ found. option_or found (first (flat_map rule_faults ys))) (a_fault (with_breaches firsts xs) fault (first (flat_map rule_faults xs)) is))

kept : (byte : Option ℕ) → or_first byte [] ≡ byte
kept None = refl
kept (Some byte) = refl

pub walked_none : (firsts : FirstBreaches) → walk_result firsts [] ≡ Ok firsts
unfolding walk_result
walked_none firsts = ap Ok (alike _ _ _ _ _ _ (kept firsts.line) (kept firsts.square) (kept firsts.family))

-- the fault at a filter that breaks a rule
abbrev fault_of : ℕ → Option QueryReason → Option QueryFault
fault_of at None = None
fault_of at (Some reason) = Some (record { byte = at; reason = reason })

first_rule : (at : ℕ) (rules : List QueryReason) → first (map ((λ reason. record { byte = at; reason = reason })) rules ++ []) ≡ fault_of at (first rules)
first_rule at [] = refl
first_rule at (reason ∷ rules) = refl

-- a filter alone
pub walked_one : (firsts : FirstBreaches) (o : Occurrence) → first (broken_rules o) ≡ None → walk_result firsts (o ∷ []) ≡ Ok (with_breaches firsts (o ∷ []))
unfolding walk_result
walked_one firsts o is =
    ap (ok_unless (with_breaches firsts (o ∷ []))) (first_rule o.at (broken_rules o) ∙ ap (fault_of o.at) is)

pub walked_broken : (firsts : FirstBreaches) (o : Occurrence) (reason : QueryReason) → first (broken_rules o) ≡ Some reason →
    walk_result firsts (o ∷ []) ≡ Err (record { byte = o.at; reason = reason })
unfolding walk_result
walked_broken firsts o reason is =
    ap (ok_unless (with_breaches firsts (o ∷ []))) (first_rule o.at (broken_rules o) ∙ ap (fault_of o.at) is)

-- a filter that breaks no rule, and all in it
pub walk_on : (firsts : FirstBreaches) (s : TypingContext) (at : ℕ) (f : FormTree) → first (broken_rules (record { standing = s; at = at; form = f })) ≡ None →
    walk_result firsts (occurrences s (filter_at at f)) ≡ walk_result (with_breaches firsts (record { standing = s; at = at; form = f } ∷ [])) (inner s f)
unfolding occurrences
walk_on firsts s at f is =
    let o : Occurrence = record { standing = s; at = at; form = f } in
    walked_done firsts (with_breaches firsts (o ∷ [])) (o ∷ []) (inner s f) (walked_one firsts o is)

-- a filter that breaks a rule
pub walk_stop : (firsts : FirstBreaches) (s : TypingContext) (at : ℕ) (f : FormTree) (reason : QueryReason) →
    first (broken_rules (record { standing = s; at = at; form = f })) ≡ Some reason →
    walk_result firsts (occurrences s (filter_at at f)) ≡ Err (record { byte = at; reason = reason })
unfolding occurrences
walk_stop firsts s at f reason is =
    let o : Occurrence = record { standing = s; at = at; form = f } in
    walked_failed firsts (record { byte = at; reason = reason }) (o ∷ []) (inner s f) (walked_broken firsts o reason is)

-- a refusal at the first of two rows
pub refused_at : (refusal : Refusal QueryFault) (firsts : FirstBreaches) (xs ys here : List Occurrence) (all : Result FirstBreaches QueryFault) →
    all ≡ walk_result firsts (xs ++ ys) → Refuses {Y = FirstBreaches} refusal (walk_result firsts here) → here ≡ xs → Refuses {Y = FirstBreaches} refusal all
refused_at (Fault fault) firsts xs ys here all is found same =
    is ∙ walked_failed firsts fault xs ys (ap (walk_result firsts) (sym same) ∙ found)
refused_at NoMemory firsts xs ys here all is found same = tt

-- the result in the second of two rows
pub found_after : (firsts found : FirstBreaches) (xs ys here : List Occurrence) (all : Result FirstBreaches QueryFault) →
    all ≡ walk_result firsts (xs ++ ys) → walk_result firsts here ≡ Ok found → here ≡ xs → all ≡ walk_result found ys
found_after firsts found xs ys here all is done same = is ∙ walked_done firsts found xs ys (ap (walk_result firsts) (sym same) ∙ done)

given : (r : Result FirstBreaches (Refusal QueryFault)) (x y : Result FirstBreaches QueryFault) → x ≡ y →
    Gives {X = FirstBreaches} {Y = FirstBreaches} (λ found. found) r y → Gives {X = FirstBreaches} {Y = FirstBreaches} (λ found. found) r x
given r x y is gives = rw is gives

-- a call that gives what is in the last row
pub given_last : (r : Result FirstBreaches (Refusal QueryFault)) (firsts : FirstBreaches) (xs here : List Occurrence) (all : Result FirstBreaches QueryFault) →
    all ≡ walk_result firsts xs → Gives {X = FirstBreaches} {Y = FirstBreaches} (λ found. found) r (walk_result firsts here) → here ≡ xs →
    Gives {X = FirstBreaches} {Y = FirstBreaches} (λ found. found) r all
given_last r firsts xs here all is gives same = given r all (walk_result firsts here) (is ∙ ap (walk_result firsts) (sym same)) gives
