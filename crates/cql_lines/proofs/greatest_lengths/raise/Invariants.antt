use Rattle.std.proofs.Common.{◌≡◌, ℕ, ◌<◌, ◌≤◌, length, max}
use Rattle.cql_lines.specs.Internal.Lengths.{at}
use Rattle.cql_lines.proofs.greatest_lengths.raise.Given as goal

abbrev pub invariant-loop-j : goal.invariant-loop-j
invariant-loop-j l = record {
  raised : (i : ℕ) → i < l.j → at l.row i ≡ max (at l.fn.row i) (at l.own i);
  kept : (i : ℕ) → l.j ≤ i → at l.row i ≡ at l.fn.row i;
  size : length l.row ≡ 64;
}
