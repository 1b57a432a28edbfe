use Rattle.std.proofs.Common.{length}
use Rattle.cq_workers.proofs.WorkerDraws.{IsGathering}
use Rattle.cq_workers.proofs.workers.collect_outputs.Given as goal

abbrev pub invariant-loop-worker : goal.invariant-loop-worker
invariant-loop-worker g l = IsGathering (g.M.GameTask.has_outputs l.task) l.board l.slots.items (record { seats = l.seats.items; kept = l.kept.items; made = l.made.items })

abbrev pub decreases-loop-worker : goal.decreases-loop-worker
decreases-loop-worker g l = length l.slots.items
