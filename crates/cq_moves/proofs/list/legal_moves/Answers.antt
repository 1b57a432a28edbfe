use Rattle.std.proofs.Common.{◌≡◌, ◌<◌, ◌^◌, false, List, sym, arith, rules, subst}
use Rattle.std.specs.List.{All, AllPairs, Contains}
use Rattle.cq_position.specs.declared.moves.Move.{Move}
use Rattle.cq_moves.specs.LegalMoves.{legal_from, legal_list, Precedes}
use Rattle.cq_moves.proofs.Bits.{IsPartly, walk_on, walk_room, walk_shorter, walk_ends}
use Rattle.cq_moves.proofs.Order.{none_is_null, legal_in_order, listed_is_legal, legal_is_listed}
use Rattle.cq_moves.proofs.Room.{legal_fits}
use Rattle.cq_moves.proofs.Walk.{side_walk_begins}
use Rattle.cq_moves.proofs.list.legal_moves.Goals as goal

pub loop-left-init : goal.loop-left-init
loop-left-init c =
    let p = c.args.position.now in
    let there = rw (c.men.ensures.men, c.side.ensures.side) at c.squares_of_side-left.ensures in
    subst (λ (xs : List Move). IsPartly (legal_from p) (legal_list p) xs c.squares_of_side-left.result) (sym c.new-moves.ensures)
    (side_walk_begins p c.squares_of_side-left.result there)

pub add_moves_from-requires-clause-room : goal.add_moves_from-requires-clause-room
add_moves_from-requires-clause-room c =
    let p = c.args.position.now in
    let some : 0 < c.loop-left.left = omega arith in
    let fits : c.loop-left.left < 2 ^ 64 = search rules in
    walk_room (legal_from p) (legal_list p) c.loop-left.moves.items c.loop-left.left c.lowest_square-from.result some fits
    c.lowest_square-from.ensures.value c.loop-left.invariant (legal_fits p c.men.ensures.kept)

pub loop-left-smaller : goal.loop-left-smaller
loop-left-smaller c =
    let some : 0 < c.loop-left.left = omega arith in
    let fits : c.loop-left.left < 2 ^ 64 = search rules in
    walk_shorter c.loop-left.left c.lowest_square-from.result c.number.result some fits c.lowest_square-from.ensures.value c.number.ensures.value

pub loop-left-preserved : goal.loop-left-preserved
loop-left-preserved c =
    let p = c.args.position.now in
    let some : 0 < c.loop-left.left = omega arith in
    let fits : c.loop-left.left < 2 ^ 64 = search rules in
    walk_on (legal_from p) (legal_list p) c.loop-left.moves.items c.add_moves_from.new.moves.items
    c.loop-left.left c.lowest_square-from.result c.number.result some fits c.lowest_square-from.ensures.value c.number.ensures.value
    c.add_moves_from.ensures c.loop-left.invariant

pub returns-clause-moves : goal.returns-clause-moves
returns-clause-moves c =
    let p = c.args.position.now in
    walk_ends (legal_from p) (legal_list p) c.loop-left.moves.items c.loop-left.left c.loop-left-test.false c.loop-left.invariant

pub returns-clause-null : goal.returns-clause-null
returns-clause-null c =
    subst (λ (xs : List Move). All (λ m. m.null ≡ false) xs)
    (sym (returns-clause-moves c))
    (none_is_null c.args.position.now)

pub returns-clause-order : goal.returns-clause-order
returns-clause-order c =
    subst (λ (xs : List Move). AllPairs Precedes xs)
    (sym (returns-clause-moves c))
    (legal_in_order c.args.position.now)

pub returns-clause-members : goal.returns-clause-members
returns-clause-members c m =
    let p = c.args.position.now in
    let same = returns-clause-moves c in (
      λ h. listed_is_legal p m (subst (λ (xs : List Move). Contains xs m) same h),
      λ l. subst (λ (xs : List Move). Contains xs m) (sym same) (legal_is_listed p m c.men.ensures.kept.whole l),
    )
