use Rattle.std.proofs.Common.{◌≡◌, length}
use Rattle.std.specs.List.{list_any}
use Rattle.cq_position.specs.Legality.{legal_test}
use Rattle.cq_moves.specs.LegalMoves.{all_moves, moves_from}
use Rattle.cq_moves.proofs.Bits.{set_squares}
use Rattle.cq_moves.proofs.mate.has_legal_move.Given as goal

abbrev pub invariant-loop-left : goal.invariant-loop-left
invariant-loop-left l =
    list_any (λ a. list_any (legal_test l.position) (moves_from a)) (set_squares l.left) ≡ list_any (legal_test l.position) all_moves

abbrev pub decreases-loop-left : goal.decreases-loop-left
decreases-loop-left l = length (set_squares l.left)
