use Rattle.std.proofs.Common.{◌≡◌, map, drop}
use Rattle.pgn_export.specs.Movetext.{nag_word}
use Rattle.pgn_export.specs.Internal.Page.{with_words}
use Rattle.pgn_export.proofs.movetext.write_nags.Given as goal

-- the words so far, and those of the glyphs that are left, are all
abbrev pub invariant-loop-nag : goal.invariant-loop-nag
invariant-loop-nag l = with_words l.page (map nag_word (drop l.nag-index l.nags)) ≡ with_words l.fn.page (map nag_word l.fn.nags)
