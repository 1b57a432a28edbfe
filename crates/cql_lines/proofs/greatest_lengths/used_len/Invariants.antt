use Rattle.std.proofs.Common.{◌≡◌, ℕ, ◌<◌, ◌≤◌}
use Rattle.cql_lines.specs.Internal.Lengths.{at}
use Rattle.cql_lines.proofs.greatest_lengths.used_len.Given as goal

abbrev pub invariant-loop-used : goal.invariant-loop-used
invariant-loop-used l = record {
  within : l.used ≤ l.count;
  past : (j : ℕ) → l.used ≤ j → j < l.count → at l.row j ≡ 0;
}

abbrev pub decreases-loop-used : goal.decreases-loop-used
decreases-loop-used l = l.used
