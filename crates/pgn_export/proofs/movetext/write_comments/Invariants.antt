use Rattle.std.proofs.Common.{◌≡◌, drop}
use Rattle.std.specs.List.{flat_map}
use Rattle.cq_position.specs.Games.{node_at}
use Rattle.pgn_export.specs.Internal.Page.{with_words}
use Rattle.pgn_export.specs.Words.{comment_words}
use Rattle.pgn_export.proofs.movetext.write_comments.Given as goal

-- the words so far, and those of the comments that are left, are all
abbrev pub invariant-loop-i : goal.invariant-loop-i
invariant-loop-i l =
    with_words l.page (flat_map comment_words (drop l.i (node_at l.game.nodes l.k).comments))
    ≡ with_words l.fn.page (flat_map comment_words (node_at l.game.nodes l.k).comments)
