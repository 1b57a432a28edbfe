use Rattle.std.proofs.Common.{◌≡◌, ◌++◌, map, drop}
use Rattle.pgn_json.specs.Json.{tag_text}
use Rattle.pgn_json.specs.Internal.Remaining.{left}
use Rattle.pgn_json.specs.Values.{separated}
use Rattle.pgn_json.proofs.game.push_pairs.Given as goal

-- the written pairs and the remaining ones are all
abbrev pub invariant-loop-i : goal.invariant-loop-i
invariant-loop-i l = l.line ++ left l.i (map tag_text (drop l.i l.tags)) ≡ l.fn.line ++ separated (map tag_text l.fn.tags)
