use Rattle.std.proofs.Common.{All, take}
use Rattle.cq_position.specs.Games.{node_at}
use Rattle.pgn_json.specs.GameConditions.{AreBytes}
use Rattle.pgn_json.proofs.laws.comments_are_bytes.Given as goal

-- those before are
abbrev pub invariant-loop-i : goal.invariant-loop-i
invariant-loop-i l = All AreBytes (take l.i (node_at l.game.nodes l.k).comments)
