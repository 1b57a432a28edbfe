use Rattle.std.specs.Prelude.{◌&&◌, is_some, get_or, length, false}
use Rattle.cql_syntax.specs.Values.{amount}
use Rattle.cql_columns.specs.Columns.{shown}
use Rattle.cql_columns.proofs.Filling.{ToldTo}
use Rattle.cql_operators.proofs.combine.numbered.Given as goal

abbrev pub invariant-loop-n : goal.invariant-loop-n
invariant-loop-n l = ToldTo (λ n. get_or l.live n false && is_some (amount (shown l.column n))) (length l.live) l.n l.left.items
