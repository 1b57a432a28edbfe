use Rattle.std.proofs.Common.{rules, ap, map, arith}
use Rattle.cql_syntax.specs.TreeOf.{filters_tree}
use Rattle.cql_values.specs.Trees.{searched_tree}
use Rattle.cql_columns.specs.Costs.{searched_len}
use Rattle.cql_candidates.specs.Classes.{is_of, cost_of}
use Rattle.cql_candidates.proofs.ClassLaw.{InPlace, class_cost_more, class_cost_within, cost_later, cost_all}
use Rattle.cql_candidates.proofs.Placing.{Placed}
use Rattle.cql_eval.proofs.FlatLaw.{items_flat, filter_flat}
use Rattle.cql_eval.proofs.HitsLaw.{hits_left, rows_begun, rows_more, rows_all}
use Rattle.cql_eval.proofs.SortsLaw.{sorted_begun, sorted_more, sorted_within, sorted_items, sorted_cost}
use Rattle.cql_eval.proofs.query.columns_of.Goals as goal

pub loop-item-init : goal.loop-item-init
loop-item-init g c = record {
  items = sorted_begun (searched_tree c.args.game.now c.args.query.now.variations) c.args.live.now c.args.live.now c.in_ok-left.left.items _
      (filters_tree c.args.query.now.items) c.as_slice-item-items.result.now (search rules) (search rules) c.in_ok-left.ensures.left;
  keys = rows_begun (searched_tree c.args.game.now c.args.query.now.variations) c.as_slice-item-items.result.now c.in_ok-left.left.items (map (λ row. row.items) c.new-keys.result.items)
      (ap (map (λ row. row.items)) c.new-keys.ensures.items);
  most = omega (arith, c.left_by.ensures.cost);
  least = omega (arith, c.left_by.ensures.rises);
}

pub loop-item-preserved : goal.loop-item-preserved
loop-item-preserved g c =
    let item : Placed = record {
      items = c.as_slice-item-items.result.now;
      place = c.loop-item.item-index;
      filter = c.item-item.result;
      low = c.loop-item-test.true;
      is = c.item-item.is;
    } in
    let left : InPlace = record {
      left = c.loop-item.left.items;
      given = c.deref_mut.result.now;
      later = c.sort_by.new.left;
      len = c.loop-item.left.len;
      count = omega (arith, c.sort_by.ensures.len, c.deref_mut.ensures.len);
      same = c.deref_mut.ensures.value;
    } in
    let tree = searched_tree c.args.game.now c.args.query.now.variations in
    record {
      items = sorted_more tree c.args.live.now left (filters_tree c.args.query.now.items) item c.loop-item.invariant.items c.in_ok-sort_by.ensures.left;
      keys = rows_more tree item c.loop-item.left.items c.deref_mut.result.now _
          (map (λ row. row.items) c.loop-item.keys.items) (map (λ row. row.items) c.sort_by.new.keys.items)
          c.deref_mut.ensures.value c.loop-item.invariant.items.asked (sorted_within tree left _ c.in_ok-sort_by.ensures.left)
          c.in_ok-sort_by.ensures.keys c.loop-item.invariant.keys;
      most = class_cost_more (is_of 5) (searched_len tree) item _ c.loop-item.steps c.sort_by.new.steps c.loop-item.invariant.most c.sort_by.ensures.cost;
      least = omega (arith, c.loop-item.invariant.least, c.sort_by.ensures.rises);
    }

pub left_by-requires-clause-flat : goal.left_by-requires-clause-flat
left_by-requires-clause-flat g c = items_flat (filters_tree c.args.query.now.items) c.args.query.now.flat c.args.query.now.accepted

pub sort_by-requires-clause-flat : goal.sort_by-requires-clause-flat
sort_by-requires-clause-flat g c =
    filter_flat c.as_slice-item-items.result.now c.loop-item.item-index c.item-item.result (filters_tree c.args.query.now.items) c.loop-item-test.true c.item-item.is
    c.as_slice-item-items.ensures.tree (items_flat (filters_tree c.args.query.now.items) c.args.query.now.flat c.args.query.now.accepted)

pub returns-in_err-sort_by-clause-cost : goal.returns-in_err-sort_by-clause-cost
returns-in_err-sort_by-clause-cost g c =
    let item : Placed = record {
      items = c.as_slice-item-items.result.now;
      place = c.loop-item.item-index;
      filter = c.item-item.result;
      low = c.loop-item-test.true;
      is = c.item-item.is;
    } in
    let within = class_cost_within (is_of 5) (searched_len (searched_tree c.args.game.now c.args.query.now.variations)) item _ c.loop-item.steps
    c.sort_by.new.steps (filters_tree c.args.query.now.items) c.loop-item.invariant.most c.sort_by.ensures.cost c.as_slice-item-items.ensures.tree in
    omega (
      arith,
      within,
      sorted_cost (searched_len (searched_tree c.args.game.now c.args.query.now.variations)) c.as_slice-item-items.result.now
          (filters_tree c.args.query.now.items) c.as_slice-item-items.ensures.tree,
      ap
          (cost_of (is_of 5) (searched_len (searched_tree c.args.game.now c.args.query.now.variations))) c.as_slice-item-items.ensures.tree,
    )

pub returns-clause-left : goal.returns-clause-left
returns-clause-left g c =
    hits_left (searched_tree c.args.game.now c.args.query.now.variations) c.args.live.now c.loop-item.left.items c.as_slice-item-items.result.now c.loop-item.item-index
    (filters_tree c.args.query.now.items)
    (omega (arith, c.loop-item-test.false)) c.as_slice-item-items.ensures.tree
    (sorted_items (searched_tree c.args.game.now c.args.query.now.variations) c.args.live.now c.loop-item.left.items
    (filters_tree c.args.query.now.items) c.as_slice-item-items.result.now c.loop-item.item-index
    (omega (arith, c.loop-item-test.false)) c.as_slice-item-items.ensures.tree c.loop-item.invariant.items)

pub returns-clause-keys : goal.returns-clause-keys
returns-clause-keys g c =
    rows_all (searched_tree c.args.game.now c.args.query.now.variations) c.as_slice-item-items.result.now c.loop-item.item-index (filters_tree c.args.query.now.items) c.loop-item.left.items
    (map (λ row. row.items) c.loop-item.keys.items) (omega (arith, c.loop-item-test.false)) c.as_slice-item-items.ensures.tree c.loop-item.invariant.keys

pub returns-clause-cost : goal.returns-clause-cost
returns-clause-cost g c =
    omega (
      arith,
      c.loop-item.invariant.most,
      sorted_cost (searched_len (searched_tree c.args.game.now c.args.query.now.variations)) c.as_slice-item-items.result.now (filters_tree
          c.args.query.now.items) c.as_slice-item-items.ensures.tree,
    )

pub returns-in_err-left-clause-cost : goal.returns-in_err-left-clause-cost
returns-in_err-left-clause-cost g c =
    omega (
      arith,
      c.left_by.ensures.cost,
      cost_later (searched_len (searched_tree c.args.game.now c.args.query.now.variations)) 5 6
          (filters_tree c.args.query.now.items) (omega arith),
      cost_all (searched_len (searched_tree c.args.game.now c.args.query.now.variations)) (filters_tree c.args.query.now.items),
    )
