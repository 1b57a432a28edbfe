use Rattle.std.proofs.Common.{◌≡◌, take}
use Rattle.cql_syntax.specs.TreeOf.{filter_trees}
use Rattle.cq_shards.specs.Order.{directions}
use Rattle.cq_shards.proofs.order.item_directions.Given as goal

abbrev pub invariant-loop-i : goal.invariant-loop-i
invariant-loop-i l = l.found.items ≡ directions (filter_trees (take l.i l.items))
