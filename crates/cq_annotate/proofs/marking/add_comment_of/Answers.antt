use Rattle.std.proofs.Common.{◌≢◌, [], sym, subst}
use Rattle.std.specs.Prelude.{All}
use Rattle.cql_syntax.specs.Hits.{form_texts}
use Rattle.cql_syntax.specs.TreeOf.{form_tree}
use Rattle.cq_annotate.proofs.Nodes.{first_of}
use Rattle.cq_annotate.proofs.marking.add_comment_of.Goals as goal

pub add_comment-requires-clause-brace : goal.add_comment-requires-clause-brace
add_comment-requires-clause-brace c =
    subst (λ t. All (λ b. b ≢ 125) t) (sym c.as_slice.ensures)
    (first_of (λ text. All (λ b. b ≢ 125) text) c.in-Comment.text []
    (subst (λ f. All (λ text. All (λ b. b ≢ 125) text) (form_texts (form_tree f))) c.in-Comment.is c.requires.brace))
