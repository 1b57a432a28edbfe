use Rattle.std.proofs.Common.{◌≡◌, ◌++◌, map, drop}
use Rattle.cq_position.specs.Games.{node_at}
use Rattle.pgn_json.specs.Internal.Remaining.{left}
use Rattle.pgn_json.specs.Strings.{string_text}
use Rattle.pgn_json.specs.Values.{separated}
use Rattle.pgn_json.proofs.notes.push_texts.Given as goal

-- the written texts and the remaining ones are all
abbrev pub invariant-loop-i : goal.invariant-loop-i
invariant-loop-i l =
    l.line ++ left l.i (map string_text (drop l.i (node_at l.game.nodes l.k).comments))
    ≡ l.fn.line ++ separated (map string_text (node_at l.game.nodes l.k).comments)
