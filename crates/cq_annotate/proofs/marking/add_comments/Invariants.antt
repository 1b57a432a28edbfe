use Rattle.std.proofs.Common.{◌≢◌, drop}
use Rattle.std.specs.Prelude.{All}
use Rattle.cql_syntax.specs.Hits.{with_marks, comment_texts}
use Rattle.cql_syntax.specs.TreeOf.{filters_tree, filter_trees}
use Rattle.cq_annotate.proofs.Nodes.{IsLeft}
use Rattle.cq_annotate.proofs.marking.add_comments.Given as goal

abbrev pub invariant-loop-item : goal.invariant-loop-item
invariant-loop-item l = record {
  brace : All (λ text. All (λ b. b ≢ 125) text) (comment_texts (filter_trees (drop l.item-index l.item-items)));
  left : IsLeft l.fn.game l.game l.node (with_marks (comment_texts (filter_trees (drop l.item-index l.item-items)))) (with_marks (comment_texts (filters_tree l.items)));
}
