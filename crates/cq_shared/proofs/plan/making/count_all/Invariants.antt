use Rattle.std.proofs.Common.{◌<◌}
use Rattle.cq_shared.proofs.plan.making.count_all.Given as goal

abbrev pub invariant-loop-query : goal.invariant-loop-query
invariant-loop-query l = 0 < l.count
