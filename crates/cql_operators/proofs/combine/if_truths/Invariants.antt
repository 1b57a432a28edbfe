use Rattle.cql_syntax.specs.Values.{if_of}
use Rattle.cql_columns.specs.Columns.{shown}
use Rattle.cql_columns.proofs.Filling.{FilledTo, of_truths}
use Rattle.cql_operators.proofs.combine.if_truths.Given as goal

abbrev pub invariant-loop-n : goal.invariant-loop-n
invariant-loop-n l = FilledTo of_truths l.live (λ n. if_of (shown l.first n) (shown l.second n) (shown l.third n)) l.end l.n l.truths.items
