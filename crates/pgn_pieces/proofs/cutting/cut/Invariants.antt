use Rattle.std.proofs.Common.{◌≡◌, ◌≤◌, ◌-◌, ◌+◌, vec_len}
use Rattle.pgn_pieces.specs.Cutting.{HasCut, pipe}
use Rattle.pgn_pieces.proofs.cutting.cut.Given as goal

-- so many bytes were read, and the lines of the pieces that are full with them were written
abbrev pub invariant-loop-count : goal.invariant-loop-count
invariant-loop-count g l =
    let source = g.S.Source in
    let sink = g.O.Sink in
    record {
      room : vec_len l.buffer ≡ 65536;
      cut : HasCut l.least l.count (pipe source.left source.faults sink.taken sink.faults l.fn.source l.fn.out)
          (pipe source.left source.faults sink.taken sink.faults l.source l.out) l.pieces;
      most : l.count ≤ 1099511627776 + 65536;
      next : source.follows l.fn.source l.source;
    }

abbrev pub decreases-loop-count : goal.decreases-loop-count
decreases-loop-count g l = (1099511627776 + 1) - l.count
