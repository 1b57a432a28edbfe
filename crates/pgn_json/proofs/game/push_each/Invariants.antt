use Rattle.std.proofs.Common.{◌≡◌, ◌++◌, map, drop}
use Rattle.cq_position.specs.Games.{numbers}
use Rattle.pgn_json.specs.Json.{node_text}
use Rattle.pgn_json.specs.Internal.Remaining.{left}
use Rattle.pgn_json.specs.Values.{separated}
use Rattle.pgn_json.proofs.game.push_each.Given as goal

-- the written nodes and the remaining ones are all
abbrev pub invariant-loop-i : goal.invariant-loop-i
invariant-loop-i l =
    l.line ++ left l.i (map (node_text l.mark l.game.nodes) (drop l.i (drop 1 (numbers l.game.nodes))))
    ≡ l.fn.line ++ separated (map (node_text l.mark l.game.nodes) (drop 1 (numbers l.game.nodes)))
