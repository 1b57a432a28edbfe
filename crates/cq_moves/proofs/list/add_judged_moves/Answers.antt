use Rattle.std.proofs.Common.{◌<◌, ◌≤◌, ◌^◌, ◌++◌, length, arith, rules}
use Rattle.std.proofs.lemmas.List.{length-append}
use Rattle.cq_moves.specs.LegalMoves.{legal_from, legal_between}
use Rattle.cq_moves.proofs.Bits.{walk_on, walk_room, walk_shorter, walk_ends}
use Rattle.cq_moves.proofs.Walk.{walk_begins, reached_begins, reached_on, reached_first}
use Rattle.cq_moves.proofs.list.add_judged_moves.Goals as goal

pub loop-left-init : goal.loop-left-init
loop-left-init c =
    let p = c.args.position.now in
    let from = c.args.origin.now.from in record {
      partly = walk_begins p c.goals_from-left.result from c.args.moves.now.items c.goals_from-left.ensures;
      goes = reached_begins p c.goals_from-left.result from c.goals_from-left.ensures;
    }

pub add_moves_between-requires-clause-reaches : goal.add_moves_between-requires-clause-reaches
add_moves_between-requires-clause-reaches c =
    let some : 0 < c.loop-left.left = omega arith in
    let fits : c.loop-left.left < 2 ^ 64 = search rules in
    reached_first c.args.position.now c.args.origin.now.from c.loop-left.left c.lowest_square-to.result some fits
    c.lowest_square-to.ensures.value c.loop-left.invariant.goes

pub add_moves_between-requires-clause-room : goal.add_moves_between-requires-clause-room
add_moves_between-requires-clause-room c =
    let p = c.args.position.now in
    let from = c.args.origin.now.from in
    let some : 0 < c.loop-left.left = omega arith in
    let fits : c.loop-left.left < 2 ^ 64 = search rules in
    let whole = c.args.moves.now.items ++ legal_from p from in
    let room : length whole ≤ 512 = omega (arith, length-append c.args.moves.now.items (legal_from p from), c.requires.room) in
    walk_room (legal_between p from) whole c.loop-left.moves.items c.loop-left.left c.lowest_square-to.result some fits
    c.lowest_square-to.ensures.value c.loop-left.invariant.partly room

pub loop-left-smaller : goal.loop-left-smaller
loop-left-smaller c =
    let some : 0 < c.loop-left.left = omega arith in
    let fits : c.loop-left.left < 2 ^ 64 = search rules in
    walk_shorter c.loop-left.left c.lowest_square-to.result c.number.result some fits c.lowest_square-to.ensures.value c.number.ensures.value

pub loop-left-preserved : goal.loop-left-preserved
loop-left-preserved c =
    let p = c.args.position.now in
    let from = c.args.origin.now.from in
    let some : 0 < c.loop-left.left = omega arith in
    let fits : c.loop-left.left < 2 ^ 64 = search rules in
    record {
      partly = walk_on (legal_between p from) (c.args.moves.now.items ++ legal_from p from)
          c.loop-left.moves.items c.add_moves_between.new.moves.items
          c.loop-left.left c.lowest_square-to.result c.number.result some fits c.lowest_square-to.ensures.value c.number.ensures.value
          c.add_moves_between.ensures c.loop-left.invariant.partly;
      goes = reached_on p from c.loop-left.left c.number.result c.loop-left.invariant.goes;
    }

pub returns : goal.returns
returns c =
    let p = c.args.position.now in
    let from = c.args.origin.now.from in
    walk_ends (legal_between p from) (c.args.moves.now.items ++ legal_from p from) c.loop-left.moves.items c.loop-left.left
    c.loop-left-test.false c.loop-left.invariant.partly
