use Rattle.std.proofs.Common.{◌≡◌, map, take}
use Rattle.cq_outside.specs.Flow.{Grew}
use Rattle.cq_search.specs.Exports.{exports_of}
use Rattle.cq_search.specs.ManyQueries.{outputs_from}
use Rattle.cq_search.proofs.outputs.write_each.Given as goal

abbrev pub invariant-loop-i : goal.invariant-loop-i
invariant-loop-i g l =
    Grew (g.O.Sink.taken l.fn.out) (g.O.Sink.taken l.out) (outputs_from 1 (map (λ row. exports_of row.items) (take l.i l.rows)))
    × (g.O.Sink.faults l.out ≡ g.O.Sink.faults l.fn.out)
