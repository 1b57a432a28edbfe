use Rattle.std.proofs.Common.{All, take}
use Rattle.pgn_json.specs.GameConditions.{AreBytes}
use Rattle.pgn_json.proofs.laws.tags_are_bytes.Given as goal

-- those before are
abbrev pub invariant-loop-i : goal.invariant-loop-i
invariant-loop-i l = All (λ t. AreBytes t.0 × AreBytes t.1) (take l.i l.tags)
