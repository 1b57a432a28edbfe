use Rattle.std.proofs.Common.{◌<◌, ◌^◌, [], ◌∷◌, Ok, map, ap, sym, ◌∙◌, arith, rules}
use Rattle.std.specs.Prelude.{bit_and}
use Rattle.std.specs.Option.{option_to_list}
use Rattle.cq_moves.proofs.Bits.{walk_shorter}
use Rattle.cq_san.specs.Internal.Origins.{is_origin, move_from, origins}
use Rattle.cq_san.specs.Reading.{only}
use Rattle.cq_san.proofs.Leftover.{found-start, found-without, found-end, first-found, second-found, origin_comes}
use Rattle.cq_san.proofs.origins.only_move.Goals as goal

pub loop-left-init : goal.loop-left-init
loop-left-init c =
    let there = rw (c.men.ensures.men, c.man_of.ensures, c.side.ensures.side) at c.squares_of-there.ensures in
    found-start (is_origin c.args.position.now c.args.parts.now) (bit_and c.origins_to-seen.result c.squares_of-there.result)
    (origin_comes c.args.position.now c.args.parts.now c.origins_to-seen.result c.squares_of-there.result
    c.origins_to-seen.ensures.goal c.origins_to-seen.ensures.mask there)

pub returns-then-is_some : goal.returns-then-is_some
unfolding origins
returns-then-is_some c =
    let test = is_origin c.args.position.now c.args.parts.now in
    let some : 0 < c.loop-left.left = omega arith in
    let fits : c.loop-left.left < 2 ^ 64 = search rules in
    let passes = sym c.is_origin.ensures ∙ c.if-is_origin.true in
    second-found (move_from c.args.parts.now) test c.loop-left.found c.loop-left.left c.lowest_square-from.result (sym c.is_some.ensures ∙ c.if-is_some.true)
    some fits c.lowest_square-from.ensures.value passes c.loop-left.invariant

pub loop-left-smaller-then-is_origin : goal.loop-left-smaller-then-is_origin
loop-left-smaller-then-is_origin c =
    let some : 0 < c.loop-left.left = omega arith in
    let fits : c.loop-left.left < 2 ^ 64 = search rules in
    walk_shorter c.loop-left.left c.lowest_square-from.result c.number.result some fits c.lowest_square-from.ensures.value c.number.ensures.value

pub loop-left-preserved-then-is_origin : goal.loop-left-preserved-then-is_origin
loop-left-preserved-then-is_origin c =
    let test = is_origin c.args.position.now c.args.parts.now in
    let some : 0 < c.loop-left.left = omega arith in
    let fits : c.loop-left.left < 2 ^ 64 = search rules in
    let passes = sym c.is_origin.ensures ∙ c.if-is_origin.true in
    first-found test c.loop-left.found c.loop-left.left c.lowest_square-from.result c.number.result (sym c.is_some.ensures ∙ c.if-is_some.false)
    some fits c.lowest_square-from.ensures.value c.number.ensures.value passes c.loop-left.invariant

pub loop-left-smaller : goal.loop-left-smaller
loop-left-smaller c =
    let some : 0 < c.loop-left.left = omega arith in
    let fits : c.loop-left.left < 2 ^ 64 = search rules in
    walk_shorter c.loop-left.left c.lowest_square-from.result c.number.result some fits c.lowest_square-from.ensures.value c.number.ensures.value

pub loop-left-preserved : goal.loop-left-preserved
loop-left-preserved c =
    let test = is_origin c.args.position.now c.args.parts.now in
    let some : 0 < c.loop-left.left = omega arith in
    let fits : c.loop-left.left < 2 ^ 64 = search rules in
    let fails = sym c.is_origin.ensures ∙ c.if-is_origin.false in
    found-without test (option_to_list c.loop-left.found) c.loop-left.left c.lowest_square-from.result c.number.result some fits
    c.lowest_square-from.ensures.value c.number.ensures.value fails c.loop-left.invariant

pub returns-in-Some : goal.returns-in-Some
unfolding origins
returns-in-Some c =
    let all = found-end (is_origin c.args.position.now c.args.parts.now) (c.in-Some.from ∷ []) c.loop-left.left (omega arith) (rw c.in-Some.is at c.loop-left.invariant) in
    ap Ok c.move_from.ensures ∙ ap (λ squares. only (map (move_from c.args.parts.now) squares)) all

pub returns-in-None : goal.returns-in-None
unfolding origins
returns-in-None c =
    let none = found-end (is_origin c.args.position.now c.args.parts.now) [] c.loop-left.left (omega arith) (rw c.in-None.is at c.loop-left.invariant) in
    ap (λ squares. only (map (move_from c.args.parts.now) squares)) none
