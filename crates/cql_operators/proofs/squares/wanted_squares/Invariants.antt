use Rattle.cql_columns.specs.Columns.{shown}
use Rattle.cql_columns.proofs.Wanting.{WantedTo}
use Rattle.cql_operators.proofs.squares.wanted_squares.Given as goal

abbrev pub invariant-loop-n : goal.invariant-loop-n
invariant-loop-n l = WantedTo (shown l.squares) l.live l.n l.wanted
