use Rattle.std.proofs.Common.{ℕ, ◌+◌, ◌≤◌}
use Rattle.cql_lines.specs.Places.{IsIn}
use Rattle.cql_lines.proofs.length_sets.greatest_within.Given as goal

abbrev pub invariant-loop-back : goal.invariant-loop-back
invariant-loop-back l = (k : ℕ) → IsIn l.set k → k ≤ l.most → k + l.back ≤ l.most
