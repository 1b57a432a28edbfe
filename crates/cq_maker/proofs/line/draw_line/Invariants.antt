use Rattle.cq_maker.proofs.Plies.{IsDrawn}
use Rattle.cq_maker.proofs.line.draw_line.Given as goal

abbrev pub invariant-loop-parent : goal.invariant-loop-parent
invariant-loop-parent l = IsDrawn l.fn.draws l.fn.most l.parent l.last l.main.items l.beside.items l.draws
