use Rattle.cq_common.specs.Greatest.{IsGreatest}
use Rattle.cql_plain.proofs.Lengths.{IsLengthBelow}
use Rattle.cql_plain.proofs.paths.longest.Given as goal

abbrev pub invariant-loop-k : goal.invariant-loop-k
invariant-loop-k l = IsGreatest (IsLengthBelow l.k l.steps l.ends l.extent) l.best
