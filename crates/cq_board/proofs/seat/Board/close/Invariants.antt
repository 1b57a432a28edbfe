use Rattle.cq_board.proofs.Dealing.{Gathered}
use Rattle.cq_board.proofs.seat.Board.close.Given as goal

abbrev pub invariant-loop-seat : goal.invariant-loop-seat
invariant-loop-seat l = Gathered l.self l.fn.seats.items l.whole l.seats.items

abbrev pub decreases-loop-seat : goal.decreases-loop-seat
decreases-loop-seat l = goal.left-loop-seat l
