use Rattle.std.specs.Prelude.{length}
use Rattle.cq_position.specs.Games.{is_searched}
use Rattle.cql_columns.proofs.Filling.{ToldTo}
use Rattle.cql_operators.proofs.nodes.all_nodes.Given as goal

abbrev pub invariant-loop-k : goal.invariant-loop-k
invariant-loop-k l = ToldTo (is_searched l.scope.variations l.scope.game.now.nodes) (length l.scope.game.now.nodes) l.k l.all.items
