use Rattle.std.proofs.Common.{◌≡◌}
use Rattle.cq_bits.specs.Sets.{IsAttacker}
use Rattle.cq_bits.proofs.Gathering.{IsGathered}
use Rattle.cq_bits.proofs.attacking.attackers_by_each.Given as goal

abbrev pub invariant-loop-left : goal.invariant-loop-left
invariant-loop-left l = IsGathered (λ s t. (s ≡ t) × IsAttacker l.position.men l.to t) l.among l.left l.found

abbrev pub decreases-loop-left : goal.decreases-loop-left
decreases-loop-left l = l.left
