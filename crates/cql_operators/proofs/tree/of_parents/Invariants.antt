use Rattle.std.specs.Prelude.{length}
use Rattle.cq_position.specs.Games.{node_at}
use Rattle.cql_columns.proofs.Filling.{ToldTo}
use Rattle.cql_operators.specs.Trees.{flag_of}
use Rattle.cql_operators.proofs.tree.of_parents.Given as goal

abbrev pub invariant-loop-k : goal.invariant-loop-k
invariant-loop-k l = ToldTo (λ k. flag_of l.set (node_at l.game.nodes k).parent) (length l.game.nodes) l.k l.found.items
