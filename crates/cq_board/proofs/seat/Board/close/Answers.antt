use Rattle.std.proofs.Common.{◌≡◌, sym, ap, subst, rules, arith}
use mathlib.Core.Option.{some}
use lib.ListN.{get_elem?}
use Rattle.cq_board.specs.Seats.{all_drawn}
use Rattle.cq_board.proofs.Steps.{joins}
use Rattle.cq_board.proofs.Dealing.{seats_left, gathered_one, gathered_more, drawn_once, word_past, all_once}
use Rattle.cq_board.proofs.seat.Board.close.Goals as goal

pub loop-seat-init : goal.loop-seat-init
loop-seat-init c = gathered_one c.args.self c.args.seats.items c.pop.new.self.items c.in-Some.field-0 c.in-Some.ensures.items c.requires.seats c.requires.all

pub join_seat-requires : goal.join_seat-requires
join_seat-requires c = (
  c.loop-seat.invariant.table,
  (seats_left c.args.self c.loop-seat.seats.items c.pop-in-loop-seat.new.self.items c.in-Some-pop.field-0 c.in-Some-pop.ensures.items c.loop-seat.invariant.seats).1.table,
  c.in-Some-pop.field-0.no_slot,
  (let w = c.args.self.words in omega arith),
  joins c.args.self.table.shared.key _ _ _ _ c.loop-seat.invariant.some,
)

pub loop-seat-preserved : goal.loop-seat-preserved
loop-seat-preserved c =
    let e = c.join_seat.ensures in
    gathered_more c.args.self c.args.seats.items c.loop-seat.seats.items c.pop-in-loop-seat.new.self.items c.loop-seat.whole c.join_seat.new.seat c.in-Some-pop.field-0
    c.in-Some-pop.ensures.items c.loop-seat.invariant e.0 (ap (λ m. m.0) e.2)

pub returns-clause-once : goal.returns-clause-once
returns-clause-once c =
    let final = c.close_with-closed.ensures.values.2 in let state = final.0 in let seen = final.1 in
    drawn_once c.args.self c.args.seats.items c.loop-seat.seats.items c.loop-seat.whole state.words state.views c.loop-seat.whole.id c.word-next.result
    (let o = c.loop-seat.seats.ok in let z = c.in_default-pop.ensures.cases.0 in search rules) c.loop-seat.invariant seen.0 seen.1
    (subst (λ words. get_elem? words 0 ≡ some c.word-next.result) (sym final.2) c.word-next.ensures)

pub returns-clause-ended : goal.returns-clause-ended
returns-clause-ended c = word_past c.args.self c.args.seats.items c.word-next.result c.requires.seats (returns-clause-once c)

pub returns-clause-whole : goal.returns-clause-whole
returns-clause-whole c = λ s is_in ended. all_once c.args.self.table.shared.key.numbers c.word-next.result (all_drawn c.args.seats.items)
    (word_past c.args.self c.args.seats.items c.word-next.result c.requires.seats (returns-clause-once c) s is_in ended) (returns-clause-once c)
