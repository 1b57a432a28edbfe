use Rattle.std.proofs.Common.{◌≡◌, ◌*◌, ◌^◌, ◌≤◌, length, take}
use Rattle.cq_search.specs.Exports.{exports_of}
use Rattle.cq_search.proofs.outputs.count_bytes.Given as goal

abbrev pub invariant-loop-i : goal.invariant-loop-i
invariant-loop-i l = (l.bytes ≡ length (exports_of (take l.i l.answers))) × (l.bytes ≤ 2 ^ 64 * l.i)
