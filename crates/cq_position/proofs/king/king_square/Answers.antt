use Rattle.std.proofs.Common.{◌^◌, ◌<◌, rules}
use Rattle.cq_position.proofs.Kings.{some_king, lowest_king}
use Rattle.cq_position.proofs.king.king_square.Goals as goal

pub lowest_square-requires : goal.lowest_square-requires
lowest_square-requires c =
    let kept = c.men.ensures.kept in
    some_king c.args.position.now.men c.args.side c.squares_of_piece.result kept.whole kept.kings
    (rw c.men.ensures.men at c.squares_of_piece.ensures)

pub returns : goal.returns
returns c =
    let kept = c.men.ensures.kept in
    let fits : c.squares_of_piece.result < 2 ^ 64 = search rules in
    lowest_king c.args.position.now.men c.args.side c.squares_of_piece.result c.lowest_square.result kept.whole kept.kings fits
    (rw c.men.ensures.men at c.squares_of_piece.ensures) c.lowest_square.ensures.value
