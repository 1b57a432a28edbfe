use Rattle.std.proofs.Common.{◌≡◌, take}
use Rattle.cql_syntax.specs.TreeOf.{filters_tree, terms_tree, parts_tree, filter_trees, term_trees, part_trees}
use Rattle.cql_syntax.proofs.tree.+copy.Given as goal

abbrev pub invariant-Constituents::copy-loop-part : goal.invariant-Constituents::copy-loop-part
invariant-Constituents::copy-loop-part l = parts_tree l.copied ≡ part_trees (take l.part-index l.part-items)

abbrev pub invariant-Filters::copy-loop-filter : goal.invariant-Filters::copy-loop-filter
invariant-Filters::copy-loop-filter l = filters_tree l.copied ≡ filter_trees (take l.filter-index l.filter-items)

abbrev pub invariant-Terms::copy-loop-term : goal.invariant-Terms::copy-loop-term
invariant-Terms::copy-loop-term l = terms_tree l.copied ≡ term_trees (take l.term-index l.term-items)
