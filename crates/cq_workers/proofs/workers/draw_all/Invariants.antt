use Rattle.cq_workers.proofs.WorkerDraws.{IsDrawing}
use Rattle.cq_workers.proofs.workers.draw_all.Given as goal

abbrev pub invariant-loop-turn : goal.invariant-loop-turn
invariant-loop-turn g l = IsDrawing (g.M.GameTask.has_outputs l.task) l.board l.worker.seat l.worker.kept l.worker.made.items l._turn
