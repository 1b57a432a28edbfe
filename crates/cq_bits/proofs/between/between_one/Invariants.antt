use Rattle.std.proofs.Common.{◌≡◌, true}
use Rattle.cq_geometry.specs.Lines.{lies_between}
use Rattle.cq_bits.proofs.Gathering.{IsGathered}
use Rattle.cq_bits.proofs.between.between_one.Given as goal

abbrev pub invariant-loop-left : goal.invariant-loop-left
invariant-loop-left l = IsGathered (λ s t. lies_between l.from t s ≡ true) l.b l.left l.found

abbrev pub decreases-loop-left : goal.decreases-loop-left
decreases-loop-left l = l.left
