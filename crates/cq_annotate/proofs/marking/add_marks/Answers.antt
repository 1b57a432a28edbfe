use Rattle.std.proofs.Common.{◌≡◌, ◌≢◌, ℕ, List, sym, subst, refl}
use Rattle.std.specs.Prelude.{All}
use Rattle.cq_position.specs.Games.{with_comment}
use Rattle.cql_syntax.specs.Hits.{marks, with_marks, comment_texts}
use Rattle.cql_syntax.specs.TreeOf.{filters_tree, query_tree}
use Rattle.cq_annotate.proofs.Nodes.{first_of, rest_of, two_changes}
use Rattle.cq_annotate.proofs.marking.add_marks.Goals as goal

abbrev NoBrace : List ℕ → Type 0
NoBrace text = All (λ b. b ≢ 125) text

pub add_comment-requires-clause-brace : goal.add_comment-requires-clause-brace
unfolding marks
add_comment-requires-clause-brace c =
    subst NoBrace (sym c.as_slice.ensures) (first_of NoBrace c.args.query.now.match_text (comment_texts (filters_tree c.args.query.now.items)) c.requires.brace)

pub add_comments-requires-clause-brace : goal.add_comments-requires-clause-brace
unfolding marks
add_comments-requires-clause-brace c = rest_of NoBrace c.args.query.now.match_text (comment_texts (filters_tree c.args.query.now.items)) c.requires.brace

pub returns : goal.returns
unfolding marks
returns c =
    two_changes c.args.game.now c.add_comment.new.self c.add_comments.new.game c.args.node (with_comment c.as_slice.result.now) (with_marks (comment_texts (filters_tree c.args.query.now.items)))
    (with_marks (marks (query_tree c.args.query.now))) c.requires.node c.in_ok-add_comment.ensures.ok c.in_ok-add_comments.ensures
    (λ x. subst (λ t. with_marks (comment_texts (filters_tree c.args.query.now.items)) (with_comment c.as_slice.result.now x)
    ≡ with_marks (comment_texts (filters_tree c.args.query.now.items)) (with_comment t x)) c.as_slice.ensures refl)
