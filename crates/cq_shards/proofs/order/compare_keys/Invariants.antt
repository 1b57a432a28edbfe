use Rattle.std.proofs.Common.{◌≡◌, drop}
use Rattle.cq_shards.specs.Internal.Comparing.{keys_cmp}
use Rattle.cq_shards.proofs.order.compare_keys.Given as goal

abbrev pub invariant-loop-i : goal.invariant-loop-i
invariant-loop-i l = keys_cmp 0 l.fn.least l.fn.xs l.fn.ys ≡ keys_cmp l.i (drop l.i l.fn.least) l.fn.xs l.fn.ys
