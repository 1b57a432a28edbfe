use Rattle.std.proofs.Common.{◌≡◌, ◌++◌, drop}
use Rattle.std.specs.List.{flat_map}
use Rattle.pgn_json.specs.Strings.{character_text}
use Rattle.pgn_json.proofs.strings.push_latin.Given as goal

-- the written letters and the remaining ones are all
abbrev pub invariant-loop-b : goal.invariant-loop-b
invariant-loop-b l = l.line ++ flat_map character_text (drop l.b-index l.text) ≡ l.fn.line ++ flat_map character_text l.fn.text
