use Rattle.std.proofs.Common.{◌≡◌}
use Rattle.cql_lines.specs.Building.{size, firsts, firsts_times, nullable}
use Rattle.cql_lines.specs.Internal.BinaryPatterns.{plain_tree}
use Rattle.cql_lines.proofs.build.+first.Given as goal

abbrev pub invariant-first_of_times-loop-k : goal.invariant-first_of_times-loop-k
invariant-first_of_times-loop-k l = l.first ≡ firsts_times (firsts (plain_tree l.p)) (nullable (plain_tree l.p)) (size (plain_tree l.p)) l.k l.at
