use Rattle.std.specs.Prelude.{length}
use Rattle.cql_columns.specs.Scopes.{tree_in}
use Rattle.cql_operators.proofs.Widening.{Widened}
use Rattle.cql_operators.proofs.tree.below.Given as goal

abbrev pub invariant-loop-k : goal.invariant-loop-k
invariant-loop-k l = Widened (tree_in l.scope) l.live (length l.scope.game.now.nodes) l.k l.wide.items
