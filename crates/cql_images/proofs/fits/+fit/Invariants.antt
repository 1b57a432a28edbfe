use Rattle.std.proofs.Common.{◌≡◌, drop, ◌∷◌}
use Rattle.std.specs.List.{list_any}
use Rattle.cq_symmetry.specs.Families.{members}
use Rattle.cql_syntax.specs.TreeOf.{filter_tree, filters_tree, terms_tree, parts_tree, filter_trees, term_trees, part_trees}
use Rattle.cql_syntax.specs.Meaning as meaning
use Rattle.cql_images.proofs.fits.+fit.Given as goal

abbrev pub invariant-all_fit-loop-filter : goal.invariant-all_fit-loop-filter
invariant-all_fit-loop-filter l = meaning.all_fit l.context (filter_trees (drop l.filter-index l.filter-items)) ≡ meaning.all_fit l.context (filters_tree l.filters)

abbrev pub invariant-terms_fit-loop-term : goal.invariant-terms_fit-loop-term
invariant-terms_fit-loop-term l = meaning.terms_fit l.context (term_trees (drop l.term-index l.term-items)) ≡ meaning.terms_fit l.context (terms_tree l.terms)

abbrev pub invariant-parts_fit-loop-part : goal.invariant-parts_fit-loop-part
invariant-parts_fit-loop-part l = meaning.parts_fit l.context (part_trees (drop l.part-index l.part-items)) ≡ meaning.parts_fit l.context (parts_tree l.parts)

abbrev pub invariant-member_fits-loop-k : goal.invariant-member_fits-loop-k
invariant-member_fits-loop-k l =
    list_any (λ h. meaning.fits (h ∷ l.context) (filter_tree l.part)) (drop l.k (members l.family))
    ≡ list_any (λ h. meaning.fits (h ∷ l.context) (filter_tree l.part)) (members l.family)
