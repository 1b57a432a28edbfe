use Rattle.std.proofs.Common.{◌∙◌, ◌+◌, ◌++◌, ap, arith, drop, map, refl}
use Rattle.std.proofs.lemmas.List.{drop_all}
use Rattle.cql_plan.proofs.ItemsLeft.{filters_left}
use Rattle.cql_syntax.specs.TreeOf.{filter_tree, filter_trees}
use Rattle.cq_shared.specs.Parts.{item_sorts, top_sorts}
use Rattle.cq_shared.proofs.Listing.{added_one, added_each}
use Rattle.cq_shared.proofs.finding.add_sorts.Goals as goal

pub loop-item-preserved : goal.loop-item-preserved
loop-item-preserved c =
    let xs = c.as_slice-item-items.result.now in
    let i = c.loop-item.item-index in
    let item = filter_tree c.item-item.result in
    added_one top_sorts (map filter_tree c.loop-item.to.items) (map filter_tree c.add_sort.new.to.items) _ (item_sorts item) (filter_trees (drop i xs))
    (filter_trees (drop (i + 1) xs)) item (filters_left xs i c.item-item.result c.loop-item-test.true c.item-item.is) refl c.in_ok-add_sort.ensures c.loop-item.invariant

pub returns : goal.returns
returns c =
    let xs = c.as_slice-item-items.result.now in
    let i = c.loop-item.item-index in
    added_each top_sorts (map filter_tree c.loop-item.to.items) _ (filter_trees (drop i xs)) (ap filter_trees (drop_all i xs (omega (arith, c.loop-item-test.false)))) refl
    c.loop-item.invariant
    ∙ ap (λ fs. map filter_tree c.args.to.now.items ++ top_sorts fs) c.as_slice-item-items.ensures.tree
