use Rattle.cql_operators.proofs.OtherNodesLaw.{RaisedSetsTo}
use Rattle.cql_operators.proofs.from_other_nodes.from_below.Given as goal

abbrev pub invariant-loop-turn : goal.invariant-loop-turn
invariant-loop-turn l = RaisedSetsTo l.game.nodes l.fn.there.items l.turn l.back.items
