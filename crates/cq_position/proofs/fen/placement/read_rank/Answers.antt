use Rattle.std.proofs.Common.{arith}
use Rattle.cq_position.proofs.Ranks.{IsRowTo-more, overlong}
use Rattle.cq_position.proofs.fen.placement.read_rank.Goals as goal

pub returns-then-width-file : goal.returns-then-width-file
returns-then-width-file c = overlong _ _ _ _ _ _ (omega arith) c.in_ok-man.ensures (omega arith) c.loop-byte.invariant

pub loop-byte-preserved : goal.loop-byte-preserved
loop-byte-preserved c = IsRowTo-more _ _ _ _ _ _ (omega arith) c.in_ok-man.ensures (omega arith) c.loop-byte.invariant
