use Rattle.std.proofs.Common.{◌≡◌, drop}
use Rattle.cql_syntax.specs.Occurrences.{all_of, of_terms, of_parts}
use Rattle.cql_syntax.specs.TreeOf.{filters_tree, terms_tree, parts_tree, filter_trees, term_trees, part_trees}
use Rattle.cql_kinds.specs.Internal.TypingContexts.{typing_context_of}
use Rattle.cql_kinds.specs.Internal.Walks.{walk_result}
use Rattle.cql_kinds.proofs.walk.+walk.Given as goal

abbrev pub invariant-walk_all-loop-filter : goal.invariant-walk_all-loop-filter
invariant-walk_all-loop-filter l =
    walk_result l.found (all_of (typing_context_of l.standing) (filter_trees (drop l.filter-index l.filter-items)))
    ≡ walk_result l.fn.firsts (all_of (typing_context_of l.standing) (filters_tree l.filters))

abbrev pub invariant-walk_terms-loop-term : goal.invariant-walk_terms-loop-term
invariant-walk_terms-loop-term l =
    walk_result l.found (of_terms (typing_context_of l.standing) (term_trees (drop l.term-index l.term-items)))
    ≡ walk_result l.fn.firsts (of_terms (typing_context_of l.standing) (terms_tree l.terms))

abbrev pub invariant-walk_parts-loop-part : goal.invariant-walk_parts-loop-part
invariant-walk_parts-loop-part l =
    walk_result l.found (of_parts (typing_context_of l.standing) (part_trees (drop l.part-index l.part-items)))
    ≡ walk_result l.fn.firsts (of_parts (typing_context_of l.standing) (parts_tree l.parts))
