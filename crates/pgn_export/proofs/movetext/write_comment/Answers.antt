use Rattle.std.proofs.Common.{codes}
use Rattle.cq_position.specs.Comments.{words}
use Rattle.pgn_export.proofs.Pages.{comment_written}
use Rattle.pgn_export.proofs.movetext.write_comment.Goals as goal

pub returns : goal.returns
returns c =
    comment_written c.args.page.now c.push_joined.new.self c.write_words.new.page c.extend_last.new.self (words c.in-Some.rest.now) (words c.args.text.now)
    (codes "{") c.in-Some.word.now (codes "}") c.in-Some.ensures.words c.in_ok-push_joined.ensures c.in_ok-write_words.ensures c.in_ok-extend_last.ensures
