use Rattle.std.specs.Prelude.{is_some}
use Rattle.cql_syntax.specs.Values.{amount}
use Rattle.cql_columns.specs.Columns.{shown}
use Rattle.cql_columns.proofs.Keeping.{KeptTo}
use Rattle.cql_operators.proofs.narrow.keep_numbered.Given as goal

abbrev pub invariant-loop-n : goal.invariant-loop-n
invariant-loop-n l = KeptTo (λ n. is_some (amount (shown l.column n))) l.fn.left l.n l.left
