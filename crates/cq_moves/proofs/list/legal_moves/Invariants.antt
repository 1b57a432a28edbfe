use Rattle.std.proofs.Common.{length}
use Rattle.cq_moves.specs.LegalMoves.{legal_from, legal_list}
use Rattle.cq_moves.proofs.Bits.{set_squares, IsPartly}
use Rattle.cq_moves.proofs.list.legal_moves.Given as goal

abbrev pub invariant-loop-left : goal.invariant-loop-left
invariant-loop-left l = IsPartly (legal_from l.position) (legal_list l.position) l.moves.items l.left

abbrev pub decreases-loop-left : goal.decreases-loop-left
decreases-loop-left l = length (set_squares l.left)
