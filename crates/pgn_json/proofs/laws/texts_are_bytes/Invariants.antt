use Rattle.std.proofs.Common.{All, take}
use Rattle.pgn_json.specs.GameConditions.{AreBytes}
use Rattle.pgn_json.proofs.laws.texts_are_bytes.Given as goal

-- those before are
abbrev pub invariant-loop-k : goal.invariant-loop-k
invariant-loop-k l = All (λ n. All AreBytes n.comments) (take l.k l.game.nodes)
