use Rattle.std.proofs.Common.{All, AllPairs, ◌<◌, subst, ◌≡◌, ◌∙◌, ◌++◌, ◌∷◌, [], length, sym, ap, arith}
use Rattle.std.specs.Prelude.{cond}
use Rattle.cq_position.specs.Games.{is_searched}
use Rattle.cql_values.specs.Trees.{searched_tree}
use Rattle.cql_syntax.specs.Hits.{is_hit}
use Rattle.cql_syntax.specs.TreeOf.{filters_tree}
use Rattle.cql_plan.proofs.ItemsLeft.{hits_increase, hits_are_inside}
use Rattle.cql_plan.proofs.HitItems.{found_below, found_more, all_found}
use Rattle.cql_plan.proofs.RowsLaw.{column_hit}
use Rattle.cql_plan.proofs.hits_and_keys.hits.Goals as goal

pub loop-k-preserved : goal.loop-k-preserved
loop-k-preserved c =
    let tree = searched_tree c.args.told.now.game.now c.args.told.now.query.now.variations in
    let items = filters_tree c.args.told.now.query.now.items in
    c.in_ok-push_if.ensures ∙ ap (λ found. found ++ cond c.hit-there.result (c.loop-k.k ∷ []) []) c.loop-k.invariant
    ∙ sym (found_more (is_searched tree.variations tree.game.nodes) (is_hit tree items) c.loop-k.k c.hit-there.result
    (sym (column_hit tree items _ c.loop-k.k c.args.told.now.hits (omega (arith, c.loop-k-test.true, c.len-k-end.ensures.len))) ∙ sym c.hit-there.ensures))

pub returns : goal.returns
returns c =
    let tree = searched_tree c.args.told.now.game.now c.args.told.now.query.now.variations in
    let items = filters_tree c.args.told.now.query.now.items in
    let all : c.loop-k.k ≡ length tree.game.nodes = omega (arith, c.loop-k-test.false, c.loop-k.auto.k-end, c.len-k-end.ensures.len) in
    let found = c.loop-k.invariant ∙ ap (found_below (is_searched tree.variations tree.game.nodes) (is_hit tree items)) all ∙ all_found tree items in
    record {
      value = found;
      increasing = subst (AllPairs (λ m n. m < n)) (sym found) (hits_increase tree items);
      inside = subst (All (λ n. n < length tree.game.nodes)) (sym found) (hits_are_inside tree items);
    }
