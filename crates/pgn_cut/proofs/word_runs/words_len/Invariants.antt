use Rattle.std.proofs.Common.{◌≤◌, length}
use Rattle.std.specs.List.{prefix_len}
use Rattle.pgn_cut.specs.Internal.WordRuns.{is_plain}
use Rattle.pgn_cut.proofs.word_runs.words_len.Given as goal

abbrev pub invariant-loop-end : goal.invariant-loop-end
invariant-loop-end l = record {
  within : l.end ≤ length l.bytes;
  plain : l.end ≤ prefix_len is_plain l.bytes;
}

abbrev pub decreases-loop-end : goal.decreases-loop-end
decreases-loop-end l = l.end
