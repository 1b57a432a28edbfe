use Rattle.std.proofs.Common.{◌≡◌, ◌≤◌, length}
use Rattle.cq_workers.proofs.workers.unit_states.Given as goal

abbrev pub invariant-loop-worker : goal.invariant-loop-worker
invariant-loop-worker l = (length l.kept.items ≡ l._worker) × (l._worker ≤ l.workers)
