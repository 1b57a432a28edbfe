use Rattle.std.specs.Prelude.{◌+◌, ◌≤◌, map, drop}
use Rattle.cql_syntax.specs.TreeOf.{filter_trees, filters_tree}
use Rattle.cql_values.specs.Trees.{searched_tree}
use Rattle.cql_columns.specs.Costs.{searched_len}
use Rattle.cql_candidates.specs.Classes.{is_of, is_before, cost_of, IsLeft}
use Rattle.cql_eval.proofs.HitsLaw.{RowsSoFar}
use Rattle.cql_eval.proofs.SortsLaw.{sorted_so}
use Rattle.cql_eval.proofs.query.columns_of.Given as goal

abbrev pub invariant-loop-item : goal.invariant-loop-item
invariant-loop-item g l = record {
  items : IsLeft (searched_tree l.game l.query.variations) l.live
      (sorted_so (searched_tree l.game l.query.variations) (filters_tree l.query.items) l.item-items l.item-index) l.left.items;
  keys : RowsSoFar (searched_tree l.game l.query.variations) l.item-items l.item-index l.left.items (map (λ row. row.items) l.keys.items);
  most : l.steps + cost_of (is_of 5) (searched_len (searched_tree l.game l.query.variations)) (filter_trees (drop l.item-index l.item-items))
      ≤ l.fn.steps + cost_of (is_before 5) (searched_len (searched_tree l.game l.query.variations)) (filters_tree l.query.items)
      + cost_of (is_of 5) (searched_len (searched_tree l.game l.query.variations)) (filter_trees l.item-items);
  least : l.fn.steps ≤ l.steps;
}
