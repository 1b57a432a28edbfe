use Rattle.cql_syntax.specs.Values.{has}
use Rattle.cql_columns.specs.Columns.{shown}
use Rattle.cql_columns.proofs.Keeping.{KeptTo}
use Rattle.cql_operators.proofs.squares.keep_by_values.Given as goal

abbrev pub invariant-loop-n : goal.invariant-loop-n
invariant-loop-n l = KeptTo (λ n. has (shown l.squares n) l.square) l.fn.there l.n l.there
