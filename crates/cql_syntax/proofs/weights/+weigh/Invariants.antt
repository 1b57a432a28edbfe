use Rattle.std.proofs.Common.{drop}
use Rattle.cql_syntax.specs.TreeOf.{filters_tree, terms_tree, parts_tree, filter_trees, term_trees, part_trees}
use Rattle.cql_syntax.specs.Weights.{filters_weight, terms_weight, parts_weight}
use Rattle.cql_syntax.proofs.Weighing.{IsPartOf}
use Rattle.cql_syntax.proofs.weights.+weigh.Given as goal

abbrev pub invariant-weight_of_filters-loop-filter : goal.invariant-weight_of_filters-loop-filter
invariant-weight_of_filters-loop-filter l =
    IsPartOf l.total (filters_weight (filter_trees (drop l.filter-index l.filter-items))) (filters_weight (filters_tree l.filters))

abbrev pub invariant-weight_of_parts-loop-part : goal.invariant-weight_of_parts-loop-part
invariant-weight_of_parts-loop-part l =
    IsPartOf l.total (parts_weight (part_trees (drop l.part-index l.part-items))) (parts_weight (parts_tree l.parts))

abbrev pub invariant-weight_of_terms-loop-term : goal.invariant-weight_of_terms-loop-term
invariant-weight_of_terms-loop-term l =
    IsPartOf l.total (terms_weight (term_trees (drop l.term-index l.term-items))) (terms_weight (terms_tree l.terms))
