use Rattle.std.proofs.Common.{refl}
use Rattle.pgn_batches.proofs.Queues.{left_some, kept_same}
use Rattle.pgn_batches.proofs.state.Queue.take_full.Goals as goal

pub returns-clause-some : goal.returns-clause-some
returns-clause-some c = left_some c.args.self.now _ c.pop_front.result c.pop_front.ensures.items refl refl refl

pub returns-clause-kept : goal.returns-clause-kept
returns-clause-kept c = λ none. kept_same c.args.self.now _ c.pop_front.result none c.pop_front.ensures.items refl refl refl
