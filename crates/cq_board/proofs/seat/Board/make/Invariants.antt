use Rattle.cq_board.proofs.Dealing.{Dealt}
use Rattle.cq_board.proofs.seat.Board.make.Given as goal

abbrev pub invariant-loop-turn : goal.invariant-loop-turn
invariant-loop-turn l = Dealt l.table.shared.table_id l.n l.seats l.seat l._turn l.claims.items
