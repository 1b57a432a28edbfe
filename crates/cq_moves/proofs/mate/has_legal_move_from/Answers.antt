use Rattle.std.proofs.Common.{◌<◌, ◌^◌, ℕ, sym, ap, ◌∙◌, arith, rules}
use Rattle.std.specs.List.{list_any}
use Rattle.cq_position.specs.Legality.{legal_test}
use Rattle.cq_moves.specs.LegalMoves.{moves_from, moves_between}
use Rattle.cq_moves.proofs.Bits.{walk_shorter, any_here, any_later, any_nowhere}
use Rattle.cq_moves.proofs.Walk.{any_begins, reached_begins, reached_on, reached_first}
use Rattle.cq_moves.proofs.mate.has_legal_move_from.Goals as goal

pub loop-left-init : goal.loop-left-init
loop-left-init c =
    let p = c.args.position.now in
    let from = c.origin_of-origin.result.from in (
      any_begins p c.goals_from-left.result from c.goals_from-left.ensures,
      reached_begins p c.goals_from-left.result from c.goals_from-left.ensures,
    )

pub has_legal_choice-requires-clause-reaches : goal.has_legal_choice-requires-clause-reaches
has_legal_choice-requires-clause-reaches c =
    let some : 0 < c.loop-left.left = omega arith in
    let fits : c.loop-left.left < 2 ^ 64 = search rules in
    reached_first c.args.position.now c.origin_of-origin.result.from c.loop-left.left c.lowest_square-to.result some fits
    c.lowest_square-to.ensures.value c.loop-left.invariant.1

pub loop-left-smaller : goal.loop-left-smaller
loop-left-smaller c =
    let some : 0 < c.loop-left.left = omega arith in
    let fits : c.loop-left.left < 2 ^ 64 = search rules in
    walk_shorter c.loop-left.left c.lowest_square-to.result c.number.result some fits c.lowest_square-to.ensures.value c.number.ensures.value

pub returns-then-has_legal_choice : goal.returns-then-has_legal_choice
returns-then-has_legal_choice c =
    let p = c.args.position.now in
    let from = c.origin_of-origin.result.from in
    let test = λ (b : ℕ). list_any (legal_test p) (moves_between from b) in
    let some : 0 < c.loop-left.left = omega arith in
    let fits : c.loop-left.left < 2 ^ 64 = search rules in
    sym (any_here test c.loop-left.left c.lowest_square-to.result some fits c.lowest_square-to.ensures.value
    (sym c.if-has_legal_choice.ensures))
    ∙ c.loop-left.invariant.0
    ∙ ap (λ a. list_any (legal_test p) (moves_from a)) c.origin_of-origin.ensures.from

pub loop-left-preserved : goal.loop-left-preserved
loop-left-preserved c =
    let p = c.args.position.now in
    let from = c.origin_of-origin.result.from in
    let test = λ (b : ℕ). list_any (legal_test p) (moves_between from b) in
    let some : 0 < c.loop-left.left = omega arith in
    let fits : c.loop-left.left < 2 ^ 64 = search rules in (
      sym (any_later test c.loop-left.left c.lowest_square-to.result c.number.result some fits c.lowest_square-to.ensures.value
          c.number.ensures.value (sym c.if-has_legal_choice.ensures))
          ∙ c.loop-left.invariant.0,
      reached_on p from c.loop-left.left c.number.result c.loop-left.invariant.1,
    )

pub returns : goal.returns
returns c =
    let p = c.args.position.now in
    let test = λ (b : ℕ). list_any (legal_test p) (moves_between c.origin_of-origin.result.from b) in
    sym (any_nowhere test c.loop-left.left c.loop-left-test.false)
    ∙ c.loop-left.invariant.0
    ∙ ap (λ a. list_any (legal_test p) (moves_from a)) c.origin_of-origin.ensures.from
