use Rattle.std.proofs.Common.{◌≢◌, ◌+◌, ℕ, List, drop, ap, ◌∙◌, subst}
use Rattle.std.specs.Prelude.{All}
use Rattle.cql_syntax.specs.Hits.{with_marks, item_texts, comment_texts}
use Rattle.cql_syntax.specs.TreeOf.{filter_tree, filters_tree, filter_trees}
use Rattle.cq_annotate.proofs.Nodes.{one_less, left_of, right_of, texts_from, marks_split}
use Rattle.cq_annotate.proofs.marking.add_comments.Goals as goal

abbrev NoBrace : List ℕ → Type 0
NoBrace text = All (λ b. b ≢ 125) text

pub add_comment_of-requires-clause-brace : goal.add_comment_of-requires-clause-brace
add_comment_of-requires-clause-brace c =
    let items = c.as_slice-item-items.result.now in
    let i = c.loop-item.item-index in
    left_of NoBrace (item_texts (filter_tree c.item-item.result)) (comment_texts (filter_trees (drop (i + 1) items)))
    (subst (All NoBrace) (texts_from items i c.item-item.result c.loop-item-test.true c.item-item.is) c.loop-item.invariant.brace)

pub loop-item-preserved : goal.loop-item-preserved
loop-item-preserved c =
    let items = c.as_slice-item-items.result.now in
    let i = c.loop-item.item-index in
    let here = item_texts (filter_tree c.item-item.result) in
    let rest = comment_texts (filter_trees (drop (i + 1) items)) in
    let split = texts_from items i c.item-item.result c.loop-item-test.true c.item-item.is in
    record {
      brace = right_of NoBrace here rest (subst (All NoBrace) split c.loop-item.invariant.brace);
      left = one_less c.args.game.now c.loop-item.game c.add_comment_of.new.game c.args.node (with_marks (comment_texts (filter_trees (drop i items)))) (with_marks here) (with_marks rest)
          (with_marks (comment_texts (filters_tree c.args.items.now))) c.requires.node c.in_ok-add_comment_of.ensures
          (λ x. ap (λ l. with_marks l x) split ∙ marks_split here rest x) c.loop-item.invariant.left;
    }
