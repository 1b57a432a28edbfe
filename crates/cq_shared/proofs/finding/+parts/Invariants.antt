use Rattle.std.proofs.Common.{◌≡◌, ◌++◌, drop, map}
use Rattle.cql_syntax.specs.TreeOf.{filter_tree, filters_tree, filter_trees}
use Rattle.cq_shared.specs.Parts.{all_parts}
use Rattle.cq_shared.proofs.finding.+parts.Given as goal

abbrev pub invariant-add_all-loop-f : goal.invariant-add_all-loop-f
invariant-add_all-loop-f l =
    map filter_tree l.to.items ++ all_parts (filter_trees (drop l.f-index l.f-items)) ≡ map filter_tree l.fn.to.items ++ all_parts (filters_tree l.fs)
