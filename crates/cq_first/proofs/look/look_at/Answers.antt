use Rattle.std.proofs.Common.{arith}
use Rattle.cq_first.proofs.Steps.{looks}
use Rattle.cq_first.proofs.look.look_at.Goals as goal

pub load-requires : goal.load-requires
load-requires g c = (
  c.requires.seat.table,
  (let w = c.args.board.now.words in omega arith),
  looks c.args.board.now.table.shared.key _ _ g.K.LookTarget.number c.args.seat.now.seat.me (let o = c.args.seat.now.one_share in omega arith),
)
