use Rattle.std.proofs.Common.{◌<◌, ◌^◌, ℕ, List, sym, ◌∙◌, arith, rules, subst}
use Rattle.std.specs.Prelude.{bit_and}
use Rattle.cq_moves.proofs.Bits.{walk_shorter}
use Rattle.cq_san.specs.Internal.Origins.{is_origin, origins}
use Rattle.cq_san.proofs.Leftover.{IsFound, found-start, found-with, found-without, found-end, found-room, origin_comes}
use Rattle.cq_san.proofs.origins.origins.Goals as goal

pub loop-left-init : goal.loop-left-init
loop-left-init c =
    let test = is_origin c.args.position.now c.args.parts.now in
    let there = rw (c.men.ensures.men, c.man_of.ensures, c.side.ensures.side) at c.squares_of-there.ensures in
    subst (λ (xs : List ℕ). IsFound test xs (bit_and c.origins_to-seen.result c.squares_of-there.result)) (sym c.new-found.ensures)
    (found-start test (bit_and c.origins_to-seen.result c.squares_of-there.result)
    (origin_comes c.args.position.now c.args.parts.now c.origins_to-seen.result c.squares_of-there.result
    c.origins_to-seen.ensures.goal c.origins_to-seen.ensures.mask there))

pub push-requires : goal.push-requires
push-requires c =
    let test = is_origin c.args.position.now c.args.parts.now in
    let some : 0 < c.loop-left.left = omega arith in
    let fits : c.loop-left.left < 2 ^ 64 = search rules in
    let passes = sym c.is_origin.ensures ∙ c.if-is_origin.true in
    let room = found-room test c.loop-left.found.items c.loop-left.left c.lowest_square-from.result some fits c.lowest_square-from.ensures.value passes c.loop-left.invariant in
    (omega arith, omega (arith, room))

pub loop-left-smaller-then-is_origin : goal.loop-left-smaller-then-is_origin
loop-left-smaller-then-is_origin c =
    let some : 0 < c.loop-left.left = omega arith in
    let fits : c.loop-left.left < 2 ^ 64 = search rules in
    walk_shorter c.loop-left.left c.lowest_square-from.result c.number.result some fits c.lowest_square-from.ensures.value c.number.ensures.value

pub loop-left-preserved-then-is_origin : goal.loop-left-preserved-then-is_origin
loop-left-preserved-then-is_origin c =
    let test = is_origin c.args.position.now c.args.parts.now in
    let some : 0 < c.loop-left.left = omega arith in
    let fits : c.loop-left.left < 2 ^ 64 = search rules in
    let passes = sym c.is_origin.ensures ∙ c.if-is_origin.true in
    rw c.push.ensures.items
    (found-with test c.loop-left.found.items c.loop-left.left c.lowest_square-from.result c.number.result some fits
    c.lowest_square-from.ensures.value c.number.ensures.value passes c.loop-left.invariant)

pub loop-left-smaller : goal.loop-left-smaller
loop-left-smaller c =
    let some : 0 < c.loop-left.left = omega arith in
    let fits : c.loop-left.left < 2 ^ 64 = search rules in
    walk_shorter c.loop-left.left c.lowest_square-from.result c.number.result some fits c.lowest_square-from.ensures.value c.number.ensures.value

pub loop-left-preserved : goal.loop-left-preserved
loop-left-preserved c =
    let test = is_origin c.args.position.now c.args.parts.now in
    let some : 0 < c.loop-left.left = omega arith in
    let fits : c.loop-left.left < 2 ^ 64 = search rules in
    let fails = sym c.is_origin.ensures ∙ c.if-is_origin.false in
    found-without test c.loop-left.found.items c.loop-left.left c.lowest_square-from.result c.number.result some fits
    c.lowest_square-from.ensures.value c.number.ensures.value fails c.loop-left.invariant

pub returns : goal.returns
unfolding origins
returns c = found-end (is_origin c.args.position.now c.args.parts.now) c.loop-left.found.items c.loop-left.left (omega arith) c.loop-left.invariant
