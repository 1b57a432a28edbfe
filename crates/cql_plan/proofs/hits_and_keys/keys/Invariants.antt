use Rattle.std.proofs.Common.{◌≡◌, ◌++◌, drop, map, length, Some}
use Rattle.cql_values.specs.Trees.{searched_tree}
use Rattle.cql_eval.specs.Hits.{keys_of, sort_numbers}
use Rattle.cql_syntax.specs.Hits.{all_keys}
use Rattle.cql_syntax.specs.TreeOf.{filter_trees}
use Rattle.cql_plan.specs.Internal.KeyRows.{AreRowsFrom}
use Rattle.cql_plan.proofs.hits_and_keys.keys.Given as goal

abbrev pub invariant-loop-item : goal.invariant-loop-item
invariant-loop-item l = record {
  keys : map Some l.keys.items ++ all_keys (searched_tree l.told.game.now l.told.query.now.variations) l.nodes (filter_trees (drop l.item-index l.item-items))
      ≡ all_keys (searched_tree l.told.game.now l.told.query.now.variations) l.nodes (filter_trees l.item-items);
  rows : AreRowsFrom (searched_tree l.told.game.now l.told.query.now.variations) l.nodes (keys_of l.told.column) (length l.keys.items)
      (sort_numbers (filter_trees (drop l.item-index l.item-items)));
}
