-- The bytes of UTF-8 in a string, as the private functions give them.
use Rattle.std.specs.Prelude.{ℕ, List, [], ◌∷◌, if◌then◌else◌}
use Rattle.pgn_json.specs.Strings.{escape, needs_escape}

abbrev pub byte_text : ℕ → List ℕ
byte_text b = if needs_escape b then escape b else b ∷ []
