use Rattle.std.proofs.Common.{drop}
use Rattle.cql_syntax.specs.TreeOf.{filters_tree, filter_trees}
use Rattle.cql_kinds.proofs.Loops.{IsItemsLeft}
use Rattle.cql_kinds.proofs.checking.walk_items.Given as goal

abbrev pub invariant-loop-item : goal.invariant-loop-item
invariant-loop-item l = IsItemsLeft l.sorts l.item-index l.found (filter_trees (drop l.item-index l.item-items)) (filters_tree l.items)
