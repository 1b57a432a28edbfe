use Rattle.std.proofs.Common.{◌+◌, ◌++◌, ap, arith, drop, map}
use Rattle.std.proofs.lemmas.List.{drop_all}
use Rattle.cql_plan.proofs.ItemsLeft.{filters_left}
use Rattle.cql_syntax.specs.TreeOf.{filter_tree, filter_trees}
use Rattle.cq_shared.specs.Parts.{parts_of, all_parts}
use Rattle.cq_shared.proofs.Listing.{added_one, added_each, all_parts_more, all_parts_none}
use Rattle.cq_shared.proofs.finding.+parts.Goals as goal

pub add_all-loop-f-init : goal.add_all-loop-f-init
add_all-loop-f-init t c = ap (λ fs. map filter_tree c.args.to.now.items ++ all_parts fs) c.as_slice-f-items.ensures.tree

pub add_all-loop-f-preserved : goal.add_all-loop-f-preserved
add_all-loop-f-preserved t c =
    let xs = c.as_slice-f-items.result.now in
    let i = c.loop-f.f-index in
    let f = filter_tree c.f-item.result in
    let rest = filter_trees (drop (i + 1) xs) in
    added_one all_parts (map filter_tree c.loop-f.to.items) (map filter_tree c.add_parts.new.to.items) _ (parts_of f) (filter_trees (drop i xs)) rest f
    (filters_left xs i c.f-item.result c.loop-f-test.true c.f-item.is) (all_parts_more f rest) c.in_ok-add_parts.ensures c.loop-f.invariant

pub add_all-returns : goal.add_all-returns
add_all-returns t c =
    let xs = c.as_slice-f-items.result.now in
    let i = c.loop-f.f-index in
    added_each all_parts (map filter_tree c.loop-f.to.items) _ (filter_trees (drop i xs)) (ap filter_trees (drop_all i xs (omega (arith, c.loop-f-test.false))))
    all_parts_none c.loop-f.invariant
