use Rattle.std.proofs.Common.{◌≡◌, ◌++◌, drop, map}
use Rattle.cql_syntax.specs.TreeOf.{filter_tree, filter_trees}
use Rattle.cq_shared.specs.Parts.{top_sorts}
use Rattle.cq_shared.proofs.finding.add_sorts.Given as goal

abbrev pub invariant-loop-item : goal.invariant-loop-item
invariant-loop-item l =
    map filter_tree l.to.items ++ top_sorts (filter_trees (drop l.item-index l.item-items))
    ≡ map filter_tree l.fn.to.items ++ top_sorts (filter_trees l.item-items)
