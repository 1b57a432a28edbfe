use Rattle.std.proofs.Common.{◌≡◌, ◌∙◌, ap, arith, map, length}
use Rattle.std.specs.List.{list_all}
use Rattle.cql_syntax.specs.TreeOf.{filter_tree, filters_tree, query_tree}
use Rattle.cq_shared.specs.StandaloneFilters.{stands_alone}
use Rattle.cq_shared.specs.Parts.{top_parts}
use Rattle.cq_shared.proofs.Makings.{collect_verdicts, first_count, parts_are}
use Rattle.cq_shared.proofs.StandAlone.{parts_stand}
use Rattle.cq_shared.proofs.plan.making.parts_of_query.Goals as goal

pub returns-clause-parts : goal.returns-clause-parts
returns-clause-parts c =
    let flat = c.in_ok-flat.flat in
    parts_are (query_tree c.args.query.now.query) flat.variations (filters_tree flat.items) (map filter_tree c.add_sorts.new.to.items) c.in_ok-flat.ensures.items
    c.in_ok-flat.ensures.variations
    (collect_verdicts (filters_tree flat.items) c.new-filters.result.items c.add_top.new.to.items c.add_sorts.new.to.items c.new-filters.ensures.items c.in_ok-add_top.ensures c.in_ok-add_sorts.ensures)

pub returns-clause-alone : goal.returns-clause-alone
returns-clause-alone c =
    let flat = c.in_ok-flat.flat in
    ap (list_all stands_alone)
    (collect_verdicts (filters_tree flat.items) c.new-filters.result.items c.add_top.new.to.items c.add_sorts.new.to.items c.new-filters.ensures.items c.in_ok-add_top.ensures c.in_ok-add_sorts.ensures)
    ∙ parts_stand (filters_tree flat.items) flat.flat flat.kinds flat.accepted

pub returns-clause-sorts : goal.returns-clause-sorts
returns-clause-sorts c =
    let flat = c.in_ok-flat.flat in
    let count : c.len-sorts.result ≡ length c.add_top.new.to.items = omega (arith, c.len-sorts.ensures) in
    count ∙ first_count (filters_tree flat.items) c.new-filters.result.items c.add_top.new.to.items c.new-filters.ensures.items c.in_ok-add_top.ensures
    ∙ ap (λ fs. length (top_parts fs)) c.in_ok-flat.ensures.items
