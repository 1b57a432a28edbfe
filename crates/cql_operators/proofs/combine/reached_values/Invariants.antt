use Rattle.cql_syntax.specs.Values.{reached_of}
use Rattle.cql_columns.specs.Columns.{shown}
use Rattle.cql_columns.proofs.Filling.{FilledTo, of_values}
use Rattle.cql_operators.proofs.combine.reached_values.Given as goal

abbrev pub invariant-loop-n : goal.invariant-loop-n
invariant-loop-n l = FilledTo of_values l.live (λ n. reached_of l.directions l.least l.most (shown l.column n)) l.end l.n l.values.items
