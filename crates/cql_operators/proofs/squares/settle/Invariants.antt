use Rattle.std.specs.Prelude.{◌&&◌, not, get_or, false, if◌then◌else◌}
use Rattle.cql_syntax.specs.Values.{holds}
use Rattle.cql_columns.specs.Columns.{shown}
use Rattle.cql_columns.proofs.Keeping.{KeptTo}
use Rattle.cql_operators.proofs.squares.settle.Given as goal

abbrev pub invariant-loop-n : goal.invariant-loop-n
invariant-loop-n l =
    KeptTo (λ n. not (get_or l.there n false && (if l.every then not (holds (shown l.column n)) else holds (shown l.column n)))) l.fn.left l.n l.left
