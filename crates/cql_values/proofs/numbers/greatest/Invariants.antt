use Rattle.std.proofs.Common.{◌≡◌, drop, map}
use Rattle.cql_syntax.specs.Values as spec
use Rattle.cql_values.specs.ValueModel.{as_value}
use Rattle.cql_values.proofs.numbers.greatest.Given as goal

abbrev pub invariant-loop-value : goal.invariant-loop-value
invariant-loop-value l = spec.greater l.found (spec.greatest (map as_value (drop l.value-index l.values))) ≡ spec.greatest (map as_value l.values)
