use Rattle.std.proofs.Common.{◌≡◌, ◌++◌, ◌-◌, ◌+◌, ◌*◌, length}
use Rattle.cql_lines.specs.Building.{size, firsts, firsts_times, rows, rows_times, nullable, null_times}
use Rattle.cql_lines.specs.Internal.BinaryPatterns.{plain_tree}
use Rattle.cql_lines.proofs.build.+build.Given as goal

abbrev pub invariant-build_times-loop-k : goal.invariant-build_times-loop-k
invariant-build_times-loop-k l = record {
  rows : l.rules.items ≡ l.fn.rules.items ++ rows_times (rows (plain_tree l.p)) (firsts (plain_tree l.p)) (nullable (plain_tree l.p))
      (size (plain_tree l.p)) (l.m - (l.n - l.k)) l.k l.next (length l.fn.rules.items);
  len : length l.rules.items ≡ length l.fn.rules.items + l.k * size (plain_tree l.p);
  first : l.first ≡ firsts_times (firsts (plain_tree l.p)) (nullable (plain_tree l.p)) (size (plain_tree l.p)) l.k (length l.fn.rules.items);
  null : l.null ≡ null_times l.empty (l.m - (l.n - l.k)) l.k;
}
