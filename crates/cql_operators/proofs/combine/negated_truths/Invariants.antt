use Rattle.std.specs.Prelude.{not}
use Rattle.cql_syntax.specs.Values.{as_truth, holds}
use Rattle.cql_columns.specs.Columns.{shown}
use Rattle.cql_columns.proofs.Filling.{FilledTo, of_truths}
use Rattle.cql_operators.proofs.combine.negated_truths.Given as goal

abbrev pub invariant-loop-n : goal.invariant-loop-n
invariant-loop-n l = FilledTo of_truths l.live (λ n. as_truth (not (holds (shown l.column n)))) l.end l.n l.truths.items
