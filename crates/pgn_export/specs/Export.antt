-- The export text of a game (PGN standard, section 3.2).
use Rattle.std.specs.Prelude.{ℕ, List, ◌++◌, codes}
use Rattle.std.specs.List.{flat_map}
use Rattle.cq_position.specs.Games.{Game}
use Rattle.pgn_export.specs.Lines.{lines}
use Rattle.pgn_export.specs.Movetext.{movetext}
use Rattle.pgn_export.specs.TagLines.{tag_line, written_tags}

-- the tag lines, an empty line, the movetext in lines, and an empty line
abbrev pub export_text : Game → List ℕ
export_text g = flat_map tag_line (written_tags g) ++ codes "\n" ++ lines (movetext g) ++ codes "\n"
