use Rattle.std.proofs.Common.{◌≡◌, take, Some}
use Rattle.cql_plan.specs.RowKeys.{key_in}
use Rattle.cql_plan.proofs.keys.key_over.Given as goal

abbrev pub invariant-loop-k : goal.invariant-loop-k
invariant-loop-k l = Some l.key ≡ key_in l.least l.row (take l.k l.nodes)
