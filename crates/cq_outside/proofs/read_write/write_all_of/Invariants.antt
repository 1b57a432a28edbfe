use Rattle.std.proofs.Common.{◌≡◌, ◌≤◌, ◌-◌, length, take}
use Rattle.cq_outside.specs.Flow.{Grew}
use Rattle.cq_outside.proofs.read_write.write_all_of.Given as goal

abbrev pub invariant-loop-done : goal.invariant-loop-done
invariant-loop-done g l =
    let sink = g.S.Sink in
    record {
      in_range : l.done ≤ length l.bytes;
      taken : Grew (sink.taken l.fn.sink) (sink.taken l.sink) (take l.done l.bytes);
      same : sink.faults l.sink ≡ sink.faults l.fn.sink;
    }

abbrev pub decreases-loop-done : goal.decreases-loop-done
decreases-loop-done g l = length l.bytes - l.done
