use Rattle.std.specs.Prelude.{length}
use Rattle.cql_operators.proofs.Lowering.{LoweredTo}
use Rattle.cql_operators.proofs.tree.with_descendants.Given as goal

abbrev pub invariant-loop-k : goal.invariant-loop-k
invariant-loop-k l = LoweredTo l.game.nodes l.set (length l.game.nodes) l.k l.found.items
