use Rattle.std.specs.Prelude.{length}
use Rattle.cql_syntax.specs.Values.{has}
use Rattle.cql_columns.specs.Columns.{shown}
use Rattle.cql_columns.proofs.Filling.{FilledTo, of_squares}
use Rattle.cql_candidates.proofs.covers.sets_of.Given as goal

abbrev pub invariant-loop-n : goal.invariant-loop-n
invariant-loop-n l = FilledTo of_squares l.live (λ n. has (shown l.squares n)) (length l.live) l.n l.sets.items
