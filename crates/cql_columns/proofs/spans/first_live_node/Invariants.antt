use Rattle.std.specs.Prelude.{◌≡◌, ℕ, ◌<◌, get_or, false}
use Rattle.cql_columns.proofs.spans.first_live_node.Given as goal

abbrev pub invariant-loop-n : goal.invariant-loop-n
invariant-loop-n l = (n : ℕ) → n < l.n → get_or l.live n false ≡ false
