use Rattle.std.proofs.Common.{◌&&◌, arith}
use Rattle.cq_position.specs.Board.{man_at}
use Rattle.cq_square_sets.proofs.Marked.{marks_or, marks_and}
use Rattle.cq_symmetry.specs.Images.{is_in}
use Rattle.cql_values.proofs.Counted.{own_squares, worth_in_all, is_pawn, is_minor, is_rook, is_queen}
use Rattle.cql_values.proofs.numbers.material_of.Goals as goal

pub returns : goal.returns
returns c =
    let men = c.args.men.now in
    let set = c.args.set in
    let own = own_squares set in
    let pawns = c.count.ensures.value (λ s. is_in set s && is_pawn (man_at men s)) (marks_and _ _ _ _ own c.either_side-3.ensures) in
    let minor = c.count-2.ensures.value (λ s. is_in set s && is_minor (man_at men s)) (marks_and _ _ _ _ own (marks_or _ _ _ _ c.either_side.ensures c.either_side-2.ensures)) in
    let rooks = c.count-3.ensures.value (λ s. is_in set s && is_rook (man_at men s)) (marks_and _ _ _ _ own c.either_side-4.ensures) in
    let queens = c.count-4.ensures.value (λ s. is_in set s && is_queen (man_at men s)) (marks_and _ _ _ _ own c.either_side-5.ensures) in
    let all = worth_in_all men set in
    omega (arith, pawns, minor, rooks, queens, all)
