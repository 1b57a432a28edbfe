use Rattle.std.proofs.Common.{◌≡◌, ◌≤◌}
use Rattle.cql_lines.specs.Internal.Lengths.{at}
use Rattle.cql_lines.specs.Internal.LengthSets.{union_in}
use Rattle.cql_lines.proofs.length_sets.union_of.Given as goal

abbrev pub invariant-loop-j : goal.invariant-loop-j
invariant-loop-j l = record {
  all : l.all ≡ union_in l.mask (at l.row) l.j;
  within : l.j ≤ l.count;
}
