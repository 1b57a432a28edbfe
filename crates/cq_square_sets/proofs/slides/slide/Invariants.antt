use Rattle.std.proofs.Common.{to_z, w8}
use Rattle.cq_square_sets.proofs.Sliding.{Sliding}
use Rattle.cq_square_sets.proofs.slides.slide.Given as goal

abbrev pub invariant-loop-step : goal.invariant-loop-step
invariant-loop-step g l = Sliding (to_z w8 g.row.DF) (to_z w8 g.row.DR) l.fn.from l.fn.empty l.reached l.edge l._step
