use Rattle.std.proofs.Common.{sym, ap, ◌∙◌, subst}
use Rattle.pgn_reader.specs.Words.{remarks, body_of, line_body_of, sense_of}
use Rattle.pgn_tree.specs.Words.{without_braces}
use Rattle.pgn_reader.specs.Internal.ReaderView.{IsSenseStep}
use Rattle.pgn_reader.proofs.token_machine.Reader.read_movetext.Goals as goal

pub returns-in-Null : goal.returns-in-Null
returns-in-Null c =
    subst (λ s. IsSenseStep c.args.self.now c.args.kind s c.read_move.new.self c.read_move.result) (ap (λ k. sense_of k c.args.text.now) (sym c.in-Null.is)) (c.read_move.ensures c.args.kind)

pub returns-in-Period : goal.returns-in-Period
returns-in-Period c =
    subst (λ s. IsSenseStep c.args.self.now c.args.kind s c.pass_over.new.self c.pass_over.result) (ap (λ k. sense_of k c.args.text.now) (sym c.in-Period.is)) (c.pass_over.ensures c.args.kind)

pub returns-in-Star : goal.returns-in-Star
returns-in-Star c =
    subst (λ s. IsSenseStep c.args.self.now c.args.kind s c.read_result.new.self c.read_result.result) (ap (λ k. sense_of k c.args.text.now) (sym c.in-Star.is)) (c.read_result.ensures c.args.kind)

pub returns-in-LeftParen : goal.returns-in-LeftParen
returns-in-LeftParen c =
    subst (λ s. IsSenseStep c.args.self.now c.args.kind s c.open_variation.new.self c.open_variation.result)
    (ap (λ k. sense_of k c.args.text.now) (sym c.in-LeftParen.is)) (c.open_variation.ensures c.args.kind)

pub returns-in-RightParen : goal.returns-in-RightParen
returns-in-RightParen c =
    subst (λ s. IsSenseStep c.args.self.now c.args.kind s c.end_variation.new.self c.end_variation.result)
    (ap (λ k. sense_of k c.args.text.now) (sym c.in-RightParen.is)) (c.end_variation.ensures c.args.kind)

pub returns-in-Comment : goal.returns-in-Comment
unfolding body_of
returns-in-Comment c =
    subst (λ s. IsSenseStep c.args.self.now c.args.kind s c.read_comment.new.self c.read_comment.result)
    (ap (λ b. remarks (without_braces b)) c.inside.ensures ∙ ap (λ k. sense_of k c.args.text.now) (sym c.in-Comment.is)) (c.read_comment.ensures c.args.kind)

pub returns-in-LineComment : goal.returns-in-LineComment
unfolding line_body_of
returns-in-LineComment c =
    subst (λ s. IsSenseStep c.args.self.now c.args.kind s c.read_comment-in-LineComment.new.self c.read_comment-in-LineComment.result)
    (ap (λ b. remarks (without_braces b)) c.after_first.ensures ∙ ap (λ k. sense_of k c.args.text.now) (sym c.in-LineComment.is)) (c.read_comment-in-LineComment.ensures c.args.kind)
