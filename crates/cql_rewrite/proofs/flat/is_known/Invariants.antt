use Rattle.std.proofs.Common.{◌≡◌, drop}
use Rattle.cql_syntax.specs.TreeOf.{filter_tree, filters_tree, filter_trees}
use Rattle.cql_rewrite.specs.Internal.DistinctMembers.{some_same}
use Rattle.cql_rewrite.proofs.flat.is_known.Given as goal

abbrev pub invariant-loop-other : goal.invariant-loop-other
invariant-loop-other l = some_same (filter_trees (drop l.other-index l.other-items)) (filter_tree l.filter) ≡ some_same (filters_tree l.kept) (filter_tree l.filter)
