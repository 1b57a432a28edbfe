use Rattle.std.proofs.Common.{◌+◌, drop, ap, sym, ◌∙◌, subst}
use Rattle.std.proofs.lemmas.List.{drop_more}
use Rattle.cql_syntax.specs.TreeOf.{filter_tree, body_tree, filters_tree, terms_tree, parts_tree, filter_trees, term_trees, part_trees}
use Rattle.cql_syntax.specs.Weights.{filter_weight, filters_weight, terms_weight, parts_weight, body_weight}
use Rattle.cql_syntax.proofs.Weighing.{IsPartOf, next_part}
use Rattle.cql_syntax.proofs.weights.+weigh.Goals as goal

pub weight_of_filters-loop-filter-preserved : goal.weight_of_filters-loop-filter-preserved
weight_of_filters-loop-filter-preserved t c =
    let xs = c.as_slice-filter-items.result.now in let i = c.loop-filter.filter-index in let x = c.filter-item.result in
    let rest = filters_weight (filter_trees (drop (i + 1) xs)) in let whole = filters_weight (filters_tree c.args.filters.now) in
    let more = ap (λ l. filters_weight (filter_trees l)) (drop_more xs i x c.loop-filter-test.true) ∙ ap (λ g. filter_weight (filter_tree g) + rest) (sym c.filter-item.is) in
    next_part c.loop-filter.total (filter_weight (filter_tree x)) rest whole c.weight_of.result c.weight_of_both-total.result
    (subst (λ left. IsPartOf c.loop-filter.total left whole) more c.loop-filter.invariant) c.weight_of.ensures c.weight_of_both-total.ensures

pub weight_of_terms-loop-term-preserved : goal.weight_of_terms-loop-term-preserved
weight_of_terms-loop-term-preserved t c =
    let xs = c.as_slice-term-items.result.now in let i = c.loop-term.term-index in let x = c.term-item.result in
    let rest = terms_weight (term_trees (drop (i + 1) xs)) in let whole = terms_weight (terms_tree c.args.terms.now) in
    let more = ap (λ l. terms_weight (term_trees l)) (drop_more xs i x c.loop-term-test.true) ∙ ap (λ g. filter_weight (filter_tree g.filter) + rest) (sym c.term-item.is) in
    next_part c.loop-term.total (filter_weight (filter_tree x.filter)) rest whole c.weight_of.result c.weight_of_both-total.result
    (subst (λ left. IsPartOf c.loop-term.total left whole) more c.loop-term.invariant) c.weight_of.ensures c.weight_of_both-total.ensures

pub weight_of_parts-loop-part-preserved : goal.weight_of_parts-loop-part-preserved
weight_of_parts-loop-part-preserved t c =
    let xs = c.as_slice-part-items.result.now in let i = c.loop-part.part-index in let x = c.part-item.result in
    let rest = parts_weight (part_trees (drop (i + 1) xs)) in let whole = parts_weight (parts_tree c.args.parts.now) in
    let more = ap (λ l. parts_weight (part_trees l)) (drop_more xs i x c.loop-part-test.true) ∙ ap (λ g. body_weight (body_tree g.body) + rest) (sym c.part-item.is) in
    next_part c.loop-part.total (body_weight (body_tree x.body)) rest whole c.weight_of_body.result c.weight_of_both-total.result
    (subst (λ left. IsPartOf c.loop-part.total left whole) more c.loop-part.invariant) c.weight_of_body.ensures c.weight_of_both-total.ensures
