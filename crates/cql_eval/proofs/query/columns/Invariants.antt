use Rattle.std.specs.Prelude.{◌≡◌, ◌+◌, ◌≤◌, map, length, drop, take}
use Rattle.cq_position.specs.Search.{nodes_in}
use Rattle.cql_syntax.specs.TreeOf.{filter_trees}
use Rattle.cql_values.specs.Trees.{searched_tree}
use Rattle.cql_columns.specs.Costs.{filters_cost, searched_len}
use Rattle.cql_eval.specs.Hits.{key_column, sort_numbers}
use Rattle.cql_eval.proofs.HitsLaw.{ItemsSoFar}
use Rattle.cql_eval.proofs.query.columns.Given as goal

abbrev pub invariant-loop-item : goal.invariant-loop-item
invariant-loop-item g l = record {
  items : ItemsSoFar (searched_tree l.game l.query.variations) l.all.items l.item-items l.item-index l.left.items;
  keys : map (λ row. row.items) l.keys.items ≡ map (key_column (searched_tree l.game l.query.variations)) (sort_numbers (filter_trees (take l.item-index l.item-items)));
  most : l.steps + filters_cost (searched_len (searched_tree l.game l.query.variations)) (filter_trees (drop l.item-index l.item-items))
      ≤ l.fn.steps + length (nodes_in (searched_tree l.game l.query.variations)) + filters_cost (searched_len (searched_tree l.game
      l.query.variations)) (filter_trees l.item-items);
  least : l.fn.steps + length (nodes_in (searched_tree l.game l.query.variations)) ≤ l.steps;
}
