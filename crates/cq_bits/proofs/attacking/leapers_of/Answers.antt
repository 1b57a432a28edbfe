use Rattle.cq_square_sets.proofs.Marked.{marks_or, marks_and}
use Rattle.cq_bits.proofs.attacking.leapers_of.Goals as goal

pub returns : goal.returns
returns c =
    marks_or _ _ _ _ (marks_or _ _ _ _ (marks_or _ _ _ _
    (marks_and _ _ _ _ c.either_side.ensures c.knight_attacks.ensures)
    (marks_and _ _ _ _ c.either_side-2.ensures c.king_attacks.ensures))
    (marks_and _ _ _ _ c.squares_of.ensures c.black_pawn_attacks.ensures))
    (marks_and _ _ _ _ c.squares_of-2.ensures c.white_pawn_attacks.ensures)
