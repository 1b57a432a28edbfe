use Rattle.std.proofs.Common.{◌≡◌, ◌+◌, ◌≤◌, ◌-◌, length, min, vec_len}
use Rattle.std.specs.Io.KnownBytes.{Consumes}
use Rattle.cq_outside.proofs.read_write.read_up_to.Given as goal

-- the bytes read so far, and that no read failed
abbrev pub invariant-loop-bytes : goal.invariant-loop-bytes
invariant-loop-bytes g l =
    let source = g.S.Source in
    record {
      room : vec_len l.buffer ≡ min 65536 (l.limit + 1);
      at_most : length l.bytes ≤ l.limit + 1;
      consumed : Consumes (source.left l.fn.source) (source.left l.source) l.bytes;
      same : source.faults l.source ≡ source.faults l.fn.source;
      next : source.follows l.fn.source l.source;
    }

abbrev pub decreases-loop-bytes : goal.decreases-loop-bytes
decreases-loop-bytes g l = (l.limit + 1) - length l.bytes
