use Rattle.std.proofs.Common.{◌≡◌, take}
use Rattle.cql_syntax.specs.Hits.{marks}
use Rattle.cql_syntax.specs.TreeOf.{query_tree}
use Rattle.cq_annotate.specs.Marking.{game_marked}
use Rattle.cq_annotate.proofs.marking.mark.Given as goal

abbrev pub invariant-loop-node : goal.invariant-loop-node
invariant-loop-node l = l.marked ≡ game_marked (marks (query_tree l.query)) (take l.node-index l.nodes) l.game
