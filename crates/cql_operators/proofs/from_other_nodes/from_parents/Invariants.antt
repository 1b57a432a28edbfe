use Rattle.std.specs.Prelude.{length}
use Rattle.cq_position.specs.Games.{node_at}
use Rattle.cql_operators.specs.Internal.NodeSets.{set_of_node}
use Rattle.cql_operators.proofs.OtherNodesLaw.{HaveSets}
use Rattle.cql_operators.proofs.from_other_nodes.from_parents.Given as goal

abbrev pub invariant-loop-k : goal.invariant-loop-k
invariant-loop-k l = HaveSets (λ n. set_of_node l.there (node_at l.game.nodes n).parent) (length l.game.nodes) l.k l.back.items
