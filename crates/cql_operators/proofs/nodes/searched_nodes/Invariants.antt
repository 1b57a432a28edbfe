use Rattle.std.specs.Prelude.{◌≡◌, ◌+◌, ◌≤◌, map, length}
use Rattle.std.specs.List.{range_with_len}
use Rattle.cq_position.specs.Games.{is_searched}
use Rattle.cq_position.specs.Search.{nodes_in}
use Rattle.cql_values.specs.Trees.{searched_tree}
use Rattle.cql_operators.proofs.Ticks.{left_of}
use Rattle.cql_operators.proofs.nodes.searched_nodes.Given as goal

abbrev pub invariant-loop-k : goal.invariant-loop-k
invariant-loop-k g l = record {
  nodes : l.all.items ≡ map (is_searched l.variations l.game.nodes) (range_with_len 0 l.k);
  left : l.steps + left_of (is_searched l.variations l.game.nodes) l.k (length l.game.nodes)
      ≡ l.fn.steps + length (nodes_in (searched_tree l.game l.variations));
  rises : l.fn.steps ≤ l.steps;
}
