use Rattle.std.proofs.Common.{◌≡◌, drop, map, fold, Some, pos}
use Rattle.cql_syntax.specs.Values as spec
use Rattle.cql_values.specs.ValueModel.{as_value}
use Rattle.cql_values.proofs.numbers.product.Given as goal

abbrev pub invariant-loop-value : goal.invariant-loop-value
invariant-loop-value l = fold spec.times_one l.total (map as_value (drop l.value-index l.values)) ≡ fold spec.times_one (Some (pos 1)) (map as_value l.values)
