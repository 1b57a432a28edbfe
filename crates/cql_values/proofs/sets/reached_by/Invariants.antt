use Rattle.std.proofs.Common.{take}
use Rattle.std.specs.List.{list_any}
use Rattle.cq_position.specs.Bitboards.{IsBitboard}
use Rattle.cql_syntax.specs.Values as spec
use Rattle.cql_values.proofs.sets.reached_by.Given as goal

abbrev pub invariant-loop-direction : goal.invariant-loop-direction
invariant-loop-direction l = IsBitboard l.mask (λ goal. list_any (λ d. spec.leads_to l.m l.n l.square goal d) (take l.direction-index l.directions))
