use Rattle.cql_syntax.specs.Values.{total_of}
use Rattle.cql_columns.specs.Columns.{terms_shown}
use Rattle.cql_columns.proofs.Filling.{FilledTo, of_values}
use Rattle.cql_operators.proofs.combine.sum_values.Given as goal

abbrev pub invariant-loop-n : goal.invariant-loop-n
invariant-loop-n l = FilledTo of_values l.live (λ n. total_of (terms_shown l.terms n)) l.end l.n l.values.items
