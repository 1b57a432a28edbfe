use Rattle.std.proofs.Common.{◌≡◌, true, take}
use Rattle.cq_position.specs.Bitboards.{contains}
use Rattle.cq_bits.specs.Sets.{IsSetOf}
use Rattle.cq_bits.proofs.between.set_of.Given as goal

abbrev pub invariant-loop-square : goal.invariant-loop-square
invariant-loop-square l = IsSetOf l.set (λ s. contains (take l.square-index l.squares) s ≡ true)
