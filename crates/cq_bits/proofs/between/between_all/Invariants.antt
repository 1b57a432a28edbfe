use Rattle.cq_bits.specs.Sets.{IsBetweenOne}
use Rattle.cq_bits.proofs.Gathering.{IsGathered}
use Rattle.cq_bits.proofs.between.between_all.Given as goal

abbrev pub invariant-loop-left : goal.invariant-loop-left
invariant-loop-left l = IsGathered (λ s t. IsBetweenOne l.b t s) l.a l.left l.found

abbrev pub decreases-loop-left : goal.decreases-loop-left
decreases-loop-left l = l.left
