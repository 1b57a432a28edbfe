use Rattle.std.proofs.Common.{◌≡◌, ℕ, ◌<◌, ◌≤◌, length}
use Rattle.std.specs.Prelude.{bit_or}
use Rattle.cql_lines.specs.Internal.Lengths.{at}
use Rattle.cql_lines.proofs.length_sets.merge.Given as goal

abbrev pub invariant-loop-j : goal.invariant-loop-j
invariant-loop-j l = record {
  raised : (i : ℕ) → i < l.j → at l.row i ≡ bit_or (at l.fn.row i) (at l.own i);
  kept : (i : ℕ) → l.j ≤ i → at l.row i ≡ at l.fn.row i;
  size : length l.row ≡ 64;
}
