use Rattle.std.proofs.Common.{◌≡◌}
use Rattle.std.specs.List.{list_any, range_with_len}
use Rattle.cq_symmetry.specs.Images as spec
use Rattle.cq_symmetry.proofs.images.image.Given as goal

abbrev pub invariant-loop-number : goal.invariant-loop-number
invariant-loop-number l = l.squares ≡ spec.mask_of (λ place. list_any (spec.is_image l.fn.m l.fn.part place) (range_with_len 0 l.number))
