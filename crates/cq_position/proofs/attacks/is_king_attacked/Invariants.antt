use Rattle.std.proofs.Common.{◌≡◌}
use Rattle.cq_position.specs.Attacks.{attacked_king, in_check}
use Rattle.cq_position.proofs.Whole.{any_from}
use Rattle.cq_position.proofs.attacks.is_king_attacked.Given as goal

abbrev pub invariant-loop-number : goal.invariant-loop-number
invariant-loop-number l = any_from (attacked_king l.men l.side) l.number ≡ in_check l.men l.side
