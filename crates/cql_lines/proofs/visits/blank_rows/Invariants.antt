use Rattle.std.proofs.Common.{◌≡◌, ℕ, length, map}
use Rattle.cql_lines.specs.Internal.DownwardPass.{cell}
use Rattle.cql_lines.proofs.visits.blank_rows.Given as goal

abbrev pub invariant-loop-turn : goal.invariant-loop-turn
invariant-loop-turn g l = record {
  size : length l.rows.items ≡ l._turn;
  blank : (n j : ℕ) → cell (map g.R.StateLengths.cells l.rows.items) n j ≡ 0;
}
