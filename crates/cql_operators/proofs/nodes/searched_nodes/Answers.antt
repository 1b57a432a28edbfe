use Rattle.std.proofs.Common.{◌≡◌, ◌∷◌, [], ◌++◌, ◌∙◌, ap, sym, arith, length, map}
use Rattle.std.specs.List.{range_with_len}
use Rattle.std.proofs.lemmas.List.FromFn.{map-range_with_len_more}
use Rattle.cq_position.specs.Games.{is_searched}
use Rattle.cql_values.specs.Trees.{searched_tree}
use Rattle.cql_operators.proofs.Ticks.{all_left, steps_next, steps_all}
use Rattle.cql_operators.proofs.nodes.searched_nodes.Goals as goal

pub loop-k-init : goal.loop-k-init
loop-k-init g c = record {
  nodes = c.in_ok-all.ensures.items;
  left = all_left (searched_tree c.args.game.now c.args.variations) _;
  rises = omega arith;
}

pub loop-k-preserved : goal.loop-k-preserved
loop-k-preserved g c = record {
  nodes = c.in_ok-push.ensures.items ∙ ap (λ l. l ++ c.is_searched-there.result ∷ []) c.loop-k.invariant.nodes
      ∙ ap (λ b. map (is_searched c.args.variations c.args.game.now.nodes) (range_with_len 0 c.loop-k.k) ++ b ∷ []) c.is_searched-there.ensures
      ∙ sym (map-range_with_len_more (is_searched c.args.variations c.args.game.now.nodes) 0 c.loop-k.k c.loop-k.k (omega arith));
  left = steps_next (is_searched c.args.variations c.args.game.now.nodes) c.loop-k.k (length c.args.game.now.nodes) _ c.loop-k.steps c.tick_if.new.steps
      c.is_searched-there.result (omega (arith, c.loop-k-test.true, c.len-k-end.ensures.len)) c.is_searched-there.ensures c.tick_if.ensures c.loop-k.invariant.left;
  rises = omega (arith, c.loop-k.invariant.rises, c.tick_if.ensures);
}

pub returns-in_err-push-clause-most : goal.returns-in_err-push-clause-most
returns-in_err-push-clause-most g c = omega (arith, c.loop-k.invariant.left)

pub returns-clause-exact : goal.returns-clause-exact
returns-clause-exact g c =
    steps_all (is_searched c.args.variations c.args.game.now.nodes) c.loop-k.k (length c.args.game.now.nodes) c.loop-k.steps _
    (omega (arith, c.loop-k-test.false, c.len-k-end.ensures.len)) c.loop-k.invariant.left

pub returns-clause-most : goal.returns-clause-most
returns-clause-most g c = omega (arith, c.loop-k.invariant.left)

pub returns-clause-nodes : goal.returns-clause-nodes
returns-clause-nodes g c =
    let whole : c.loop-k.k ≡ length c.args.game.now.nodes = omega (arith, c.loop-k-test.false, c.loop-k.auto.k-end, c.len-k-end.ensures.len) in
    c.loop-k.invariant.nodes ∙ ap (λ n. map (is_searched c.args.variations c.args.game.now.nodes) (range_with_len 0 n)) whole
