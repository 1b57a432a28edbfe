-- The tags of an export by their names.
use Rattle.std.specs.Prelude.{◌≡◌, ℕ, ◌&&◌, List, codes, Option, Some, if◌then◌else◌}
use Rattle.std.specs.Option.{option_or, is_some}
use Rattle.std.specs.Str.{bytes_eq}
use Rattle.cq_position.specs.Games.{Game, tag_value}
use Rattle.pgn_tree.specs.Results.{result_text}
use Rattle.pgn_export.specs.NormalGames.{AreInExportOrder}
use Rattle.pgn_export.specs.TagLines.{roster, written_tags}

-- The value of a tag in the text, if it is written: the game's result, 1 for SetUp with FEN, or the game's value. A
-- missing tag of the roster has the roster's value.
abbrev pub written_value : Game → List ℕ → Option (List ℕ)
written_value g name =
    if bytes_eq name (codes "Result") then Some (result_text g.result)
    else (if bytes_eq name (codes "SetUp") && is_some (tag_value (codes "FEN") g.tags) then Some (codes "1")
    else option_or (tag_value name g.tags) (tag_value name roster))

-- the tags are in export order, and each name has its written value
pub record AreExportTags (g : Game) : Type 0 where
  pub order : AreInExportOrder (written_tags g)
  pub values : (name : List ℕ) → tag_value name (written_tags g) ≡ written_value g name
