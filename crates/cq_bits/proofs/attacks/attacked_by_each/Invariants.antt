use Rattle.std.proofs.Common.{◌≡◌, true}
use Rattle.cq_position.specs.Attacks.{attacks}
use Rattle.cq_bits.proofs.Gathering.{IsGathered}
use Rattle.cq_bits.proofs.attacks.attacked_by_each.Given as goal

abbrev pub invariant-loop-left : goal.invariant-loop-left
invariant-loop-left l = IsGathered (λ s t. attacks l.position.men t s ≡ true) l.from l.left l.reached

abbrev pub decreases-loop-left : goal.decreases-loop-left
decreases-loop-left l = l.left
