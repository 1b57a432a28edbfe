use Rattle.std.proofs.Common.{take}
use Rattle.std.specs.List.{list_any}
use Rattle.cq_position.specs.Bitboards.{IsBitboard}
use Rattle.cql_syntax.specs.Values as spec
use Rattle.cql_values.specs.ValueModel.{as_value}
use Rattle.cql_values.proofs.sets.union.Given as goal

abbrev pub invariant-loop-value : goal.invariant-loop-value
invariant-loop-value l = IsBitboard l.mask (λ s. list_any (λ v. spec.has (as_value v) s) (take l.value-index l.values))
