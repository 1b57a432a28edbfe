use Rattle.std.proofs.Common.{◌≡◌, drop, fold, Some, pos}
use Rattle.cql_syntax.specs.Values as spec
use Rattle.cql_values.specs.ValueModel.{terms_as_values}
use Rattle.cql_values.proofs.numbers.total.Given as goal

abbrev pub invariant-loop-term : goal.invariant-loop-term
invariant-loop-term l = fold spec.plus_one l.total (terms_as_values (drop l.term-index l.terms)) ≡ fold spec.plus_one (Some (pos 0)) (terms_as_values l.terms)
