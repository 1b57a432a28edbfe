use Rattle.std.proofs.Common.{◌-◌, length}
use Rattle.pgn_cut.proofs.Loops.{IsFeeding}
use Rattle.pgn_cut.proofs.cutter.Cutter.feed.Given as goal

abbrev pub invariant-loop-at : goal.invariant-loop-at
invariant-loop-at l = IsFeeding l.fn.self l.cutter l.piece l.at l.fn.spans.items l.spans.items

abbrev pub decreases-loop-at : goal.decreases-loop-at
decreases-loop-at l = length l.piece - l.at
