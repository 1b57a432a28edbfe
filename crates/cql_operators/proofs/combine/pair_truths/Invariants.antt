use Rattle.std.specs.Prelude.{ℕ, List}
use Rattle.cq_position.specs.declared.men.Man.{Man}
use Rattle.cql_syntax.specs.Values.{as_truth, pair_of}
use Rattle.cql_values.specs.FilterValues.{is_true}
use Rattle.cql_columns.specs.Columns.{shown}
use Rattle.cql_columns.proofs.Filling.{FilledTo, of_truths}
use Rattle.cql_operators.proofs.combine.pair_truths.Given as goal

abbrev pub invariant-loop-n : goal.invariant-loop-n
invariant-loop-n l = (men : ℕ → List Man)
    → FilledTo of_truths l.live (λ n. as_truth (is_true (pair_of (men n) l.pair (shown l.first n) (shown l.second n)))) l.end l.n l.truths.items
