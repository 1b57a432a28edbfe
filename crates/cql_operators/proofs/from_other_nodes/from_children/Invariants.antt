use Rattle.cql_operators.proofs.OtherNodesLaw.{ChildSetsTo}
use Rattle.cql_operators.proofs.from_other_nodes.from_children.Given as goal

abbrev pub invariant-loop-k : goal.invariant-loop-k
invariant-loop-k l = ChildSetsTo l.game.nodes l.there l.k l.back.items
