use Rattle.std.proofs.Common.{◌≡◌, drop}
use Rattle.cql_syntax.specs.Same as spec
use Rattle.cql_syntax.specs.Unplaced.{all_with, terms_with, parts_with}
use Rattle.cql_syntax.specs.TreeOf.{filters_tree, terms_tree, parts_tree, filter_trees, term_trees, part_trees}
use Rattle.cql_rewrite.proofs.same.+same.Given as goal

abbrev pub invariant-same_filters-loop-k : goal.invariant-same_filters-loop-k
invariant-same_filters-loop-k l =
    spec.same_filters (all_with l.placed (filter_trees (drop l.k l.first))) (all_with l.placed (filter_trees (drop l.k l.second)))
    ≡ spec.same_filters (all_with l.placed (filters_tree l.a)) (all_with l.placed (filters_tree l.b))

abbrev pub invariant-same_terms-loop-k : goal.invariant-same_terms-loop-k
invariant-same_terms-loop-k l =
    spec.same_terms (terms_with l.placed (term_trees (drop l.k l.first))) (terms_with l.placed (term_trees (drop l.k l.second)))
    ≡ spec.same_terms (terms_with l.placed (terms_tree l.a)) (terms_with l.placed (terms_tree l.b))

abbrev pub invariant-same_parts-loop-k : goal.invariant-same_parts-loop-k
invariant-same_parts-loop-k l =
    spec.same_parts (parts_with l.placed (part_trees (drop l.k l.first))) (parts_with l.placed (part_trees (drop l.k l.second)))
    ≡ spec.same_parts (parts_with l.placed (parts_tree l.a)) (parts_with l.placed (parts_tree l.b))
