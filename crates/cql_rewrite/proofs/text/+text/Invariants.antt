use Rattle.std.proofs.Common.{◌≡◌, ◌++◌, [], take, drop, None}
use Rattle.std.specs.Prelude.{unwrap_or, codes}
use Rattle.cql_syntax.specs.TreeOf.{terms_tree, filter_trees, term_trees, part_trees}
use Rattle.cql_rewrite.specs.FlatText as spec
use Rattle.cql_rewrite.proofs.Pairs.{sum_rest}
use Rattle.cql_rewrite.proofs.text.+text.Given as goal

abbrev pub invariant-texts_of-loop-filter : goal.invariant-texts_of-loop-filter
invariant-texts_of-loop-filter l = l.texts.items ≡ spec.texts (filter_trees (take l.filter-index l.filter-items))

abbrev pub invariant-part_texts-loop-part : goal.invariant-part_texts-loop-part
invariant-part_texts-loop-part l = l.texts.items ≡ spec.part_texts (part_trees (take l.part-index l.part-items))

abbrev pub invariant-sum_of-loop-term : goal.invariant-sum_of-loop-term
invariant-sum_of-loop-term l =
    l.text ++ sum_rest l.first (term_trees (drop l.term-index l.term-items))
    ≡ unwrap_or (spec.sum_after None (terms_tree l.terms)) (spec.in_parens (codes "+") [])
