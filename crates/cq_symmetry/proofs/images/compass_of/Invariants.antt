use Rattle.std.proofs.Common.{◌≡◌, drop}
use Rattle.std.specs.Prelude.{find}
use Rattle.cq_symmetry.specs.Images as spec
use Rattle.cq_symmetry.proofs.images.compass_of.Given as goal

abbrev pub invariant-loop-direction : goal.invariant-loop-direction
invariant-loop-direction l = find (spec.goes (l.fn.step.0, l.fn.step.1)) (drop l.direction-index l.direction-items) ≡ find (spec.goes (l.fn.step.0, l.fn.step.1)) spec.compasses
