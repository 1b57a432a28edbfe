use Rattle.std.proofs.Common.{◌∙◌, ap, map}
use Rattle.std.specs.List.{list_all}
use Rattle.cql_syntax.specs.TreeOf.{filter_tree, query_tree}
use Rattle.cq_shared.specs.StandaloneFilters.{stands_alone}
use Rattle.cq_shared.specs.Interning.{all_shown, with_parts}
use Rattle.cq_shared.specs.Parts.{parts_with}
use Rattle.cq_shared.proofs.Makings.{asker_by}
use Rattle.cq_shared.proofs.plan.making.owner_of.Goals as goal

pub add_all-requires-clause-alone : goal.add_all-requires-clause-alone
add_all-requires-clause-alone c =
    ap (λ xs. list_all stands_alone (map filter_tree xs)) c.as_slice-filters.ensures.value ∙ c.in_ok-parts_of_query.ensures.alone

pub returns-clause-parts : goal.returns-clause-parts
returns-clause-parts c =
    c.in_ok-numbers.ensures.parts
    ∙ ap (λ xs. with_parts (all_shown c.args.parts.now.items) (parts_with c.in_ok-parts_of_query.parts_of_query.variations (map filter_tree xs))) c.as_slice-filters.ensures.value
    ∙ ap (with_parts (all_shown c.args.parts.now.items)) c.in_ok-parts_of_query.ensures.parts

pub returns-clause-owner : goal.returns-clause-owner
returns-clause-owner c =
    asker_by c.args.parts.now.items c.add_all.new.parts.items _ (query_tree c.args.query.now.query) c.args.number
    (parts_with c.in_ok-parts_of_query.parts_of_query.variations (map filter_tree c.as_slice-filters.result.now)) c.in_ok-parts_of_query.ensures.query
    (ap (λ xs. parts_with c.in_ok-parts_of_query.parts_of_query.variations (map filter_tree xs)) c.as_slice-filters.ensures.value ∙ c.in_ok-parts_of_query.ensures.parts)
    c.in_ok-numbers.ensures.numbers c.in_ok-numbers.ensures.asked c.requires.fresh c.in_ok-parts_of_query.ensures.sorts

pub add_all-requires-clause-table : goal.add_all-requires-clause-table
add_all-requires-clause-table c = c.requires.table

pub returns-clause-table : goal.returns-clause-table
returns-clause-table c = c.in_ok-numbers.ensures.table

pub returns-clause-kept : goal.returns-clause-kept
returns-clause-kept c = c.in_ok-numbers.ensures.kept

pub returns-clause-query : goal.returns-clause-query
returns-clause-query c = c.in_ok-parts_of_query.ensures.query

pub returns-clause-asked : goal.returns-clause-asked
returns-clause-asked c = c.in_ok-numbers.ensures.asked
