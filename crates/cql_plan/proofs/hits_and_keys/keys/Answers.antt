use Rattle.std.proofs.Common.{◌≡◌, ◌∙◌, ◌++◌, ◌+◌, true, All, sym, ap, subst, map, length, drop, append_assoc, Some}
use Rattle.cql_values.specs.Trees.{searched_tree}
use Rattle.cql_eval.specs.Hits.{hits_of, keys_of, sort_numbers, item_numbers}
use Rattle.cql_syntax.specs.Hits.{is_hit, all_keys}
use Rattle.cql_syntax.specs.TreeOf.{filter_tree, filters_tree, filter_trees}
use Rattle.cql_plan.specs.Internal.KeyRows.{AreRowsFrom}
use Rattle.cql_plan.proofs.ItemsHeld.{item_at_hits}
use Rattle.cql_plan.proofs.ItemsLeft.{filters_left}
use Rattle.cql_plan.proofs.Needed.{hits_hit}
use Rattle.cql_plan.proofs.RowsLaw.{rows_there, rows_split, hits_told}
use Rattle.cql_plan.proofs.hits_and_keys.keys.Goals as goal

pub loop-item-init : goal.loop-item-init
loop-item-init c =
    let tree = searched_tree c.args.told.now.game.now c.args.told.now.query.now.variations in
    let items = filters_tree c.args.told.now.query.now.items in
    let there = rows_there tree items (hits_of c.args.told.now.column) (keys_of c.args.told.now.column) c.args.nodes.now c.args.told.now.keys
    (hits_told tree items (hits_of c.args.told.now.column) c.args.nodes.now c.args.told.now.hits c.requires) in
    record {
      keys = ap (λ ks. map Some ks ++ all_keys tree c.args.nodes.now (filter_trees c.as_slice-item-items.result.now)) c.new-keys.ensures.items;
      rows = subst (λ n. AreRowsFrom tree c.args.nodes.now (keys_of c.args.told.now.column) n (sort_numbers (filter_trees c.as_slice-item-items.result.now)))
          (sym (ap length c.new-keys.ensures.items))
          (subst (λ fs. AreRowsFrom tree c.args.nodes.now (keys_of c.args.told.now.column) 0 (sort_numbers fs)) (sym c.as_slice-item-items.ensures.tree) there);
    }

pub add_key-requires-clause-holds : goal.add_key-requires-clause-holds
add_key-requires-clause-holds c =
    let tree = searched_tree c.args.told.now.game.now c.args.told.now.query.now.variations in
    let items = filters_tree c.args.told.now.query.now.items in
    item_at_hits tree c.args.nodes.now c.as_slice-item-items.result.now items c.loop-item.item-index c.item-item.result
    c.as_slice-item-items.ensures.tree c.loop-item-test.true c.item-item.is
    (subst (All (λ n. is_hit tree items n ≡ true)) (sym c.requires) (hits_hit tree items))

pub add_key-requires-clause-rows : goal.add_key-requires-clause-rows
add_key-requires-clause-rows c =
    let tree = searched_tree c.args.told.now.game.now c.args.told.now.query.now.variations in
    let left = filters_left c.as_slice-item-items.result.now c.loop-item.item-index c.item-item.result c.loop-item-test.true c.item-item.is in
    let rest = sort_numbers (filter_trees (drop (c.loop-item.item-index + 1) c.as_slice-item-items.result.now)) in
    (rows_split tree c.args.nodes.now (keys_of c.args.told.now.column) (length c.loop-item.keys.items) (item_numbers (filter_tree c.item-item.result)) rest
    (subst (λ fs. AreRowsFrom tree c.args.nodes.now (keys_of c.args.told.now.column) (length c.loop-item.keys.items) (sort_numbers fs)) left
    c.loop-item.invariant.rows)).first

pub loop-item-preserved : goal.loop-item-preserved
loop-item-preserved c =
    let tree = searched_tree c.args.told.now.game.now c.args.told.now.query.now.variations in
    let left = filters_left c.as_slice-item-items.result.now c.loop-item.item-index c.item-item.result c.loop-item-test.true c.item-item.is in
    let later = filter_trees (drop (c.loop-item.item-index + 1) c.as_slice-item-items.result.now) in
    record {
      keys = ap (λ ks. ks ++ all_keys tree c.args.nodes.now later) c.in_ok-add_key.ensures.keys
          ∙ append_assoc (map Some c.loop-item.keys.items) _ (all_keys tree c.args.nodes.now later)
          ∙ ap (λ fs. map Some c.loop-item.keys.items ++ all_keys tree c.args.nodes.now fs) (sym left) ∙ c.loop-item.invariant.keys;
      rows = subst (λ n. AreRowsFrom tree c.args.nodes.now (keys_of c.args.told.now.column) n (sort_numbers later)) (sym c.in_ok-add_key.ensures.count)
          (rows_split tree c.args.nodes.now (keys_of c.args.told.now.column) (length c.loop-item.keys.items) (item_numbers (filter_tree c.item-item.result))
          (sort_numbers later)
          (subst (λ fs. AreRowsFrom tree c.args.nodes.now (keys_of c.args.told.now.column) (length c.loop-item.keys.items) (sort_numbers fs)) left
          c.loop-item.invariant.rows)).rest;
    }
