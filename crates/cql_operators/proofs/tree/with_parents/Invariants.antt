use Rattle.cql_operators.proofs.Parents.{HasParentsTo}
use Rattle.cql_operators.proofs.tree.with_parents.Given as goal

abbrev pub invariant-loop-k : goal.invariant-loop-k
invariant-loop-k l = HasParentsTo l.game.nodes l.set l.fn.start.items l.k l.found.items
