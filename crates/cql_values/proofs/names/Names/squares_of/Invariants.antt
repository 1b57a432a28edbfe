use Rattle.std.proofs.Common.{◌≡◌, ◌≤◌, ℕ, length, take, reverse}
use Rattle.cql_syntax.specs.Meaning.{is_bound_to}
use Rattle.cql_values.proofs.names.Names.squares_of.Given as goal

abbrev pub invariant-loop-kept : goal.invariant-loop-kept
invariant-loop-kept l = record {
  within : l.kept ≤ length l.self-inside.pairs.items;
  same : (s : ℕ) → is_bound_to (reverse (take l.kept l.self-inside.pairs.items)) l.name s ≡ is_bound_to l.self l.name s;
}

abbrev pub decreases-loop-kept : goal.decreases-loop-kept
decreases-loop-kept l = l.kept
