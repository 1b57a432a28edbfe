use Rattle.std.specs.Prelude.{◌≡◌, ◌+◌, count_by, take}
use Rattle.cql_operators.proofs.nodes.tick_nodes.Given as goal

abbrev pub invariant-loop-n : goal.invariant-loop-n
invariant-loop-n g l = l.steps ≡ l.fn.steps + count_by (λ b. b) (take l.n l.live)
