use Rattle.std.proofs.Common.{◌≡◌, ℕ, ◌<◌, get_or}
use Rattle.cql_syntax.specs.TreeOf.{filter_tree}
use Rattle.cql_syntax.specs.declared.tree.Filter.{Filter}
use Rattle.cql_candidates.specs.Covers.{IsIndependent}
use Rattle.cql_candidates.proofs.independent.+is_independent.Given as goal

abbrev pub invariant-are_independent-loop-part : goal.invariant-are_independent-loop-part
invariant-are_independent-loop-part l = (k : ℕ) (f : Filter) → k < l.part-index → f ≡ get_or l.part-items k f → IsIndependent l.opened (filter_tree f)
