use Rattle.std.proofs.Common.{take}
use Rattle.cql_syntax.specs.TreeOf.{filters_tree, filter_trees}
use Rattle.cql_plan.specs.Replacements.{AllStandFor, Gathers}
use Rattle.cql_plan.proofs.joining.+join.Given as goal

abbrev pub invariant-joined_all-loop-filter : goal.invariant-joined_all-loop-filter
invariant-joined_all-loop-filter l = AllStandFor (filter_trees (take l.filter-index l.filter-items)) (filters_tree l.made)

abbrev pub invariant-gather-loop-part : goal.invariant-gather-loop-part
invariant-gather-loop-part l = Gathers l.kind (filters_tree l.fn.to.filters) (filters_tree l.to.filters) (filter_trees (take l.part-index l.part-items))
