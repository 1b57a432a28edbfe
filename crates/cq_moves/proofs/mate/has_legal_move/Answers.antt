use Rattle.std.proofs.Common.{◌<◌, ◌^◌, ℕ, sym, ◌∙◌, arith, rules}
use Rattle.std.specs.List.{list_any}
use Rattle.cq_position.specs.Legality.{legal_test}
use Rattle.cq_moves.specs.LegalMoves.{moves_from}
use Rattle.cq_moves.proofs.Bits.{walk_shorter, any_here, any_later, any_nowhere}
use Rattle.cq_moves.proofs.Walk.{side_any_begins}
use Rattle.cq_moves.proofs.mate.has_legal_move.Goals as goal

pub loop-left-init : goal.loop-left-init
loop-left-init c =
    side_any_begins c.args.position.now c.squares_of_side-left.result (rw (c.men.ensures.men, c.side.ensures.side) at c.squares_of_side-left.ensures)

pub loop-left-smaller : goal.loop-left-smaller
loop-left-smaller c =
    let some : 0 < c.loop-left.left = omega arith in
    let fits : c.loop-left.left < 2 ^ 64 = search rules in
    walk_shorter c.loop-left.left c.lowest_square-from.result c.number.result some fits c.lowest_square-from.ensures.value c.number.ensures.value

pub returns-then-has_legal_move_from : goal.returns-then-has_legal_move_from
returns-then-has_legal_move_from c =
    let test = λ (a : ℕ). list_any (legal_test c.args.position.now) (moves_from a) in
    let some : 0 < c.loop-left.left = omega arith in
    let fits : c.loop-left.left < 2 ^ 64 = search rules in
    sym (any_here test c.loop-left.left c.lowest_square-from.result some fits c.lowest_square-from.ensures.value (sym c.if-has_legal_move_from.ensures))
    ∙ c.loop-left.invariant

pub loop-left-preserved : goal.loop-left-preserved
loop-left-preserved c =
    let test = λ (a : ℕ). list_any (legal_test c.args.position.now) (moves_from a) in
    let some : 0 < c.loop-left.left = omega arith in
    let fits : c.loop-left.left < 2 ^ 64 = search rules in
    sym (any_later test c.loop-left.left c.lowest_square-from.result c.number.result some fits c.lowest_square-from.ensures.value
    c.number.ensures.value (sym c.if-has_legal_move_from.ensures))
    ∙ c.loop-left.invariant

pub returns : goal.returns
returns c =
    sym (any_nowhere (λ (a : ℕ). list_any (legal_test c.args.position.now) (moves_from a)) c.loop-left.left c.loop-left-test.false)
    ∙ c.loop-left.invariant
