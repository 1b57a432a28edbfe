use Rattle.std.specs.Prelude.{◌≡◌, ℕ, ◌≤◌, length, get_or, false}
use Rattle.cql_columns.proofs.spans.live_node_end.Given as goal

abbrev pub invariant-loop-end : goal.invariant-loop-end
invariant-loop-end l = record {
  most : l.end ≤ length l.live;
  none : (n : ℕ) → l.end ≤ n → get_or l.live n false ≡ false;
}

abbrev pub decreases-loop-end : goal.decreases-loop-end
decreases-loop-end l = l.end
