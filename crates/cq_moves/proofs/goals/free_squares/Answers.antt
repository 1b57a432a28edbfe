use Rattle.std.proofs.Common.{◌<◌, ◌^◌, rules}
use Rattle.cq_square_sets.proofs.Marked.{marks_and, marks_not}
use Rattle.cq_moves.proofs.goals.free_squares.Goals as goal

pub returns : goal.returns
returns c =
    let own = rw (c.men-men.ensures.men, c.side-side.ensures.side) at c.squares_of_side.ensures in
    let king = rw (c.opponent.ensures, c.side-side.ensures.side, c.men-men.ensures.men) at c.squares_of_piece.ensures in
    let one : c.squares_of_side.result < 2 ^ 64 = search rules in
    let two : c.squares_of_piece.result < 2 ^ 64 = search rules in
    marks_and _ _ _ _ (marks_not _ _ one own) (marks_not _ _ two king)
