use Rattle.std.proofs.Common.{◌≤◌}
use Rattle.cq_shared.proofs.finding.count_top.Given as goal

abbrev pub invariant-loop-item : goal.invariant-loop-item
invariant-loop-item l = l.before ≤ l.count
