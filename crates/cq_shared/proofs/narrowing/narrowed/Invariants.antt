use Rattle.std.proofs.Common.{◌≡◌, ◌++◌, length}
use Rattle.cq_shared.proofs.Unions.{AreNarrowed}
use Rattle.cq_shared.proofs.narrowing.narrowed.Given as goal

abbrev pub invariant-loop-nodes : goal.invariant-loop-nodes
invariant-loop-nodes l =
    (l.fn.left.items ≡ l.yielded ++ l.nodes-iterator.rest.items) × AreNarrowed l.game l.part l.fn.left.items l.later.items (length l.yielded)
