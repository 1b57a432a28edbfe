use Rattle.std.proofs.Common.{refl}
use Rattle.pgn_batches.proofs.Queues.{starts}
use Rattle.pgn_batches.proofs.state.Queue.new.Goals as goal

pub returns : goal.returns
returns c = starts _ c.new.ensures.items c.new-2.ensures.items refl refl
