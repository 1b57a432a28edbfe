use Rattle.std.proofs.Common.{take}
use Rattle.cql_syntax.specs.TreeOf.{filters_tree, filter_trees}
use Rattle.cql_plan.specs.Internal.CommonParts.{AreRests}
use Rattle.cql_plan.proofs.lifting.rests_of.Given as goal

abbrev pub invariant-loop-k : goal.invariant-loop-k
invariant-loop-k l = AreRests (filters_tree l.common) (filter_trees (take l.k l.filters)) (filters_tree l.rests)
