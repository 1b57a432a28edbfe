use Rattle.std.proofs.Common.{rules, ◌∙◌, ◌++◌, ap, map, arith}
use Rattle.cql_syntax.specs.TreeOf.{filter_tree, filters_tree}
use Rattle.cql_values.specs.Trees.{searched_tree}
use Rattle.cql_columns.specs.Costs.{searched_len}
use Rattle.cql_eval.specs.Hits.{key_column, item_numbers}
use Rattle.cql_columns.proofs.Costing.{cost_more, cost_within}
use Rattle.cql_eval.proofs.FlatLaw.{items_flat, filter_flat}
use Rattle.cql_eval.proofs.HitsLaw.{all_asked, items_begun, items_more, items_within, hits_are, made_begun, made_more, made_all, rows_same}
use Rattle.cql_eval.proofs.query.columns.Goals as goal

pub loop-item-init : goal.loop-item-init
loop-item-init g c = record {
  items = items_begun (searched_tree c.args.game.now c.args.query.now.variations) c.in_ok-all.all.items c.in_ok-left.left.items c.as_slice-item-items.result.now
      (all_asked (searched_tree c.args.game.now c.args.query.now.variations) c.in_ok-all.all.items c.in_ok-all.ensures.nodes) (search rules);
  keys = made_begun (key_column (searched_tree c.args.game.now c.args.query.now.variations)) (map (λ row. row.items) c.new-keys.result.items) c.as_slice-item-items.result.now
      (ap (map (λ row. row.items)) c.new-keys.ensures.items);
  most = omega (arith, c.searched_nodes.ensures.most);
  least = omega (arith, c.in_ok-all.ensures.exact);
}

pub loop-item-preserved : goal.loop-item-preserved
loop-item-preserved g c = record {
  items = items_more (searched_tree c.args.game.now c.args.query.now.variations) c.in_ok-all.all.items
      (record {
        items = c.as_slice-item-items.result.now;
        place = c.loop-item.item-index;
        filter = c.item-item.result;
        low = c.loop-item-test.true;
        is = c.item-item.is;
      })
      c.loop-item.left.items _ c.in_ok-left-2.left.items (search rules) c.in_ok-left-2.ensures.asked c.in_ok-left-2.ensures.each
      c.loop-item.invariant.items;
  keys = made_more (key_column (searched_tree c.args.game.now c.args.query.now.variations)) (map (λ row. row.items) c.loop-item.keys.items) (map (λ row. row.items) c.narrowed_by.new.keys.items)
      c.as_slice-item-items.result.now c.loop-item.item-index c.item-item.result c.loop-item-test.true c.item-item.is
      (c.in_ok-left-2.ensures.keys
      ∙ ap (λ rows. map (λ row. row.items) c.loop-item.keys.items ++ rows)
      (rows_same (searched_tree c.args.game.now c.args.query.now.variations) c.in_ok-all.all.items _ c.in_ok-all.ensures.nodes (search rules) (item_numbers (filter_tree c.item-item.result))))
      c.loop-item.invariant.keys;
  most = cost_more (searched_len (searched_tree c.args.game.now c.args.query.now.variations)) c.as_slice-item-items.result.now
      (record { index = c.loop-item.item-index; item = c.item-item.result; below = c.loop-item-test.true; is = c.item-item.is }) _ c.loop-item.steps
      c.narrowed_by.new.steps c.loop-item.invariant.most c.narrowed_by.ensures.cost;
  least = omega (arith, c.loop-item.invariant.least, c.narrowed_by.ensures.rises);
}

pub narrowed_by-requires-clause-asked : goal.narrowed_by-requires-clause-asked
narrowed_by-requires-clause-asked g c = search (rules, all_asked (searched_tree c.args.game.now c.args.query.now.variations) c.in_ok-all.all.items c.in_ok-all.ensures.nodes)

pub narrowed_by-requires-clause-within : goal.narrowed_by-requires-clause-within
narrowed_by-requires-clause-within g c =
    items_within (searched_tree c.args.game.now c.args.query.now.variations) c.in_ok-all.all.items c.as_slice-item-items.result.now
    c.loop-item.item-index c.loop-item.left.items _ _ (search rules) (search rules)
    c.loop-item.invariant.items

pub narrowed_by-requires-clause-flat : goal.narrowed_by-requires-clause-flat
narrowed_by-requires-clause-flat g c =
    filter_flat c.as_slice-item-items.result.now c.loop-item.item-index c.item-item.result (filters_tree c.args.query.now.items) c.loop-item-test.true c.item-item.is
    c.as_slice-item-items.ensures.tree (items_flat (filters_tree c.args.query.now.items) c.args.query.now.flat c.args.query.now.accepted)

pub returns-in_err-left-2-clause-most : goal.returns-in_err-left-2-clause-most
returns-in_err-left-2-clause-most g c =
    cost_within (searched_len (searched_tree c.args.game.now c.args.query.now.variations)) c.as_slice-item-items.result.now
    (record { index = c.loop-item.item-index; item = c.item-item.result; below = c.loop-item-test.true; is = c.item-item.is }) _ c.loop-item.steps
    c.narrowed_by.new.steps (filters_tree c.args.query.now.items) c.loop-item.invariant.most
    c.narrowed_by.ensures.cost c.as_slice-item-items.ensures.tree

pub returns-clause-hits : goal.returns-clause-hits
returns-clause-hits g c =
    hits_are (searched_tree c.args.game.now c.args.query.now.variations) c.in_ok-all.all.items c.loop-item.left.items c.as_slice-item-items.result.now c.loop-item.item-index
    (filters_tree c.args.query.now.items)
    c.in_ok-all.ensures.nodes (omega (arith, c.loop-item-test.false)) c.as_slice-item-items.ensures.tree c.loop-item.invariant.items

pub returns-clause-keys : goal.returns-clause-keys
returns-clause-keys g c =
    made_all (key_column (searched_tree c.args.game.now c.args.query.now.variations)) (map (λ row. row.items) c.loop-item.keys.items) c.as_slice-item-items.result.now c.loop-item.item-index
    (filters_tree c.args.query.now.items) (omega (arith, c.loop-item-test.false)) c.as_slice-item-items.ensures.tree c.loop-item.invariant.keys
