use Rattle.std.specs.Prelude.{length}
use Rattle.cql_operators.proofs.OtherNodesLaw.{LoweredSetsTo}
use Rattle.cql_operators.proofs.from_other_nodes.from_above.Given as goal

abbrev pub invariant-loop-k : goal.invariant-loop-k
invariant-loop-k l = LoweredSetsTo l.game.nodes l.there (length l.game.nodes) l.k l.back.items
