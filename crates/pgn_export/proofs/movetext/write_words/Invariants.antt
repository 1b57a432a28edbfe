use Rattle.std.proofs.Common.{◌≡◌, length}
use Rattle.cq_position.specs.Comments.{words}
use Rattle.pgn_export.specs.Internal.Page.{with_words}
use Rattle.pgn_export.proofs.movetext.write_words.Given as goal

-- the words so far, and those of what is left, are all
abbrev pub invariant-loop-word : goal.invariant-loop-word
invariant-loop-word l = with_words l.page (words l.rest) ≡ with_words l.fn.page (words l.fn.text)

abbrev pub decreases-loop-word : goal.decreases-loop-word
decreases-loop-word l = length l.rest
