use Rattle.std.proofs.Common.{take}
use Rattle.cq_shared.specs.Internal.FirstNodes.{AreStartNodes}
use Rattle.cq_shared.proofs.start_nodes.start_nodes.Given as goal

abbrev pub invariant-loop-owner : goal.invariant-loop-owner
invariant-loop-owner l = AreStartNodes l.game (take l.owner-index l.owners) l.start_nodes.items
