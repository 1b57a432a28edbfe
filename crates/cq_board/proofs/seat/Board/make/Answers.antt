use Rattle.std.proofs.Common.{arith}
use Rattle.cq_board.proofs.Steps.{splits}
use Rattle.cq_board.proofs.Dealing.{dealt_more}
use Rattle.cq_board.proofs.seat.Board.make.Goals as goal

pub split_seat-pass-requires : goal.split_seat-pass-requires
split_seat-pass-requires c = (
  c.loop-turn.invariant.table,
  (let w = c.in_ok-table.ensures.0 in omega arith),
  splits c.in_ok-table.table.shared.key c.loop-turn.seat.id c.loop-turn.seat.me.0 (let p = c.loop-turn.invariant.passes in let t = c.loop-turn-test.true in omega arith),
)

pub loop-turn-preserved : goal.loop-turn-preserved
loop-turn-preserved c =
    let e = c.split_seat-pass.ensures in
    dealt_more _ _ _ c.loop-turn.seat c.split_seat-pass.new.seat c.loop-turn._turn c.loop-turn.claims.items _ _ c.loop-turn-test.true c.loop-turn.invariant e.0 e.2 e.3 e.4 c.in_ok-push.ensures.items
