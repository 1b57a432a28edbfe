use Rattle.std.proofs.Common.{◌&&◌}
use Rattle.cq_position.specs.Games.{is_searched}
use Rattle.cq_shared.proofs.Unions.{Told}
use Rattle.cq_shared.proofs.start_nodes.start_nodes_of.Given as goal

abbrev pub invariant-loop-n : goal.invariant-loop-n
invariant-loop-n l = Told (λ n. l.passes && is_searched l.variations l.game.nodes n) l.n l.there.items
