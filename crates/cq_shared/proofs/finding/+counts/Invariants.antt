use Rattle.std.proofs.Common.{◌≤◌}
use Rattle.cq_shared.proofs.finding.+counts.Given as goal

abbrev pub invariant-count_all-loop-f : goal.invariant-count_all-loop-f
invariant-count_all-loop-f l = l.fn.before ≤ l.count
