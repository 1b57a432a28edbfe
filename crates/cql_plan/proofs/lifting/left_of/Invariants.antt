use Rattle.std.proofs.Common.{take}
use Rattle.cql_syntax.specs.TreeOf.{filters_tree, filter_trees}
use Rattle.cql_plan.specs.Internal.CommonParts.{AreLeft}
use Rattle.cql_plan.proofs.lifting.left_of.Given as goal

abbrev pub invariant-loop-part : goal.invariant-loop-part
invariant-loop-part l = AreLeft (filters_tree l.common) (filter_trees (take l.part-index l.part-items)) (filters_tree l.rest)
