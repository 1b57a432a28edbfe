use Rattle.std.proofs.Common.{◌≡◌, ◌≤◌}
use Rattle.cql_lines.specs.Internal.Lengths.{greatest_in, at}
use Rattle.cql_lines.proofs.greatest_lengths.greatest.Given as goal

abbrev pub invariant-loop-j : goal.invariant-loop-j
invariant-loop-j l = record {
  best : l.best ≡ greatest_in l.mask (at l.row) l.j;
  within : l.j ≤ l.count;
}
