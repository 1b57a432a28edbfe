use Rattle.cq_square_sets.proofs.Marked.{marks_or}
use Rattle.cq_moves.proofs.reach.origins_to.Goals as goal

pub returns-in-King-clause-mask : goal.returns-in-King-clause-mask
returns-in-King-clause-mask c =
    let first = rw (c.king_of.ensures, c.side-side.ensures.side, c.men.ensures.men) at c.squares_attacked.ensures in
    let second = rw (c.king_home.ensures, c.side-side.ensures.side) at c.set_of.ensures in
    rw c.in-King.is (marks_or _ _ _ _ first second)

pub returns-in-Pawn-clause-mask : goal.returns-in-Pawn-clause-mask
returns-in-Pawn-clause-mask c =
    let first = rw (c.man_of.ensures, c.opponent.ensures, c.side-side.ensures.side, c.men-in-Pawn.ensures.men) at c.squares_attacked-in-Pawn.ensures in
    let second = rw (c.opponent-in-Pawn.ensures, c.side-side.ensures.side) at c.squares_ahead.ensures in
    rw c.in-Pawn.is (marks_or _ _ _ _ first second)
