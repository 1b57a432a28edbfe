use Rattle.std.proofs.Common.{length}
use Rattle.cq_san.specs.Internal.Origins.{is_origin}
use Rattle.cq_moves.proofs.Bits.{set_squares}
use Rattle.cq_san.proofs.Leftover.{IsFound}
use Rattle.cq_san.proofs.origins.origins.Given as goal

abbrev pub invariant-loop-left : goal.invariant-loop-left
invariant-loop-left l = IsFound (is_origin l.position l.parts) l.found.items l.left

abbrev pub decreases-loop-left : goal.decreases-loop-left
decreases-loop-left l = length (set_squares l.left)
