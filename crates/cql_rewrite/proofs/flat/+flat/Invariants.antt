use Rattle.std.proofs.Common.{◌≡◌, take, map}
use Rattle.cq_symmetry.specs.Families.{members}
use Rattle.cql_syntax.specs.Flat as spec
use Rattle.cql_syntax.specs.Meaning.{fitting}
use Rattle.cql_syntax.specs.TreeOf.{filter_tree, filters_tree, terms_tree, parts_tree, filter_trees, term_trees, part_trees}
use Rattle.cql_rewrite.proofs.flat.+flat.Given as goal

abbrev pub invariant-flat_all-loop-filter : goal.invariant-flat_all-loop-filter
invariant-flat_all-loop-filter l = filters_tree l.made ≡ spec.flat_all l.context (filter_trees (take l.filter-index l.filter-items))

abbrev pub invariant-flat_terms-loop-term : goal.invariant-flat_terms-loop-term
invariant-flat_terms-loop-term l = terms_tree l.made ≡ spec.flat_terms l.context (term_trees (take l.term-index l.term-items))

abbrev pub invariant-flat_parts-loop-part : goal.invariant-flat_parts-loop-part
invariant-flat_parts-loop-part l = parts_tree l.made ≡ spec.flat_parts l.context (part_trees (take l.part-index l.part-items))

abbrev pub invariant-flat_members-loop-k : goal.invariant-flat_members-loop-k
invariant-flat_members-loop-k l =
    filters_tree l.kept ≡ spec.distinct (map (λ h. spec.flat h (filter_tree l.part)) (fitting l.context (take l.k (members l.family)) (filter_tree l.part)))
