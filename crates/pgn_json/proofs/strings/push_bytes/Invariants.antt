use Rattle.std.proofs.Common.{◌≡◌, ◌++◌, drop}
use Rattle.std.specs.List.{flat_map}
use Rattle.pgn_json.specs.Internal.Bytes.{byte_text}
use Rattle.pgn_json.proofs.strings.push_bytes.Given as goal

-- the written bytes and the remaining ones are all
abbrev pub invariant-loop-b : goal.invariant-loop-b
invariant-loop-b l = l.line ++ flat_map byte_text (drop l.b-index l.text) ≡ l.fn.line ++ flat_map byte_text l.fn.text
