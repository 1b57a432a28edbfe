use Rattle.std.specs.Prelude.{◌&&◌, length}
use Rattle.cq_position.specs.Games.{is_searched, node_at}
use Rattle.cql_columns.proofs.Filling.{ToldTo}
use Rattle.cql_operators.specs.Trees.{flag_of}
use Rattle.cql_operators.proofs.tree.children.Given as goal

abbrev pub invariant-loop-k : goal.invariant-loop-k
invariant-loop-k l = ToldTo (λ k. is_searched l.scope.variations l.scope.game.now.nodes k && flag_of l.live (node_at l.scope.game.now.nodes k).parent) (length l.scope.game.now.nodes) l.k l.wide.items
