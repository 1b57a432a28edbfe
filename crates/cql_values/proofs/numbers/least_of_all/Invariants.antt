use Rattle.std.proofs.Common.{◌≡◌, drop, map, fold, Some}
use Rattle.std.specs.Int.{int_min}
use Rattle.cql_syntax.specs.Values as spec
use Rattle.cql_values.specs.ValueModel.{as_value}
use Rattle.cql_values.proofs.numbers.least_of_all.Given as goal

abbrev pub invariant-loop-value : goal.invariant-loop-value
invariant-loop-value l =
    fold (λ a w. spec.of_both (λ x y. Some (int_min x y)) a (spec.amount w)) l.chosen (map as_value (drop l.value-index l.rest)) ≡ spec.chosen_from int_min (map as_value l.values)
