use Rattle.std.proofs.Common.{◌≡◌, take}
use Rattle.cq_outside.specs.Flow.{Grew}
use Rattle.cq_search.specs.Exports.{exports_of}
use Rattle.cq_search.proofs.output.write_texts.Given as goal

abbrev pub invariant-loop-i : goal.invariant-loop-i
invariant-loop-i g l =
    Grew (g.O.Sink.taken l.fn.out) (g.O.Sink.taken l.out) (exports_of (take l.i l.answers)) × (g.O.Sink.faults l.out ≡ g.O.Sink.faults l.fn.out)
