use Rattle.std.proofs.Common.{◌++◌, length}
use Rattle.cq_moves.specs.LegalMoves.{legal_from}
use Rattle.cq_moves.proofs.Bits.{set_squares}
use Rattle.cq_moves.proofs.Walk.{IsWalk}
use Rattle.cq_moves.proofs.list.add_judged_moves.Given as goal

abbrev pub invariant-loop-left : goal.invariant-loop-left
invariant-loop-left l =
    IsWalk l.position l.origin.from (l.initial.moves.items ++ legal_from l.position l.origin.from) l.moves.items l.left

abbrev pub decreases-loop-left : goal.decreases-loop-left
decreases-loop-left l = length (set_squares l.left)
