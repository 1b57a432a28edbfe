use Rattle.std.specs.Prelude.{get_or}
use Rattle.cql_syntax.specs.Values.{has}
use Rattle.cql_values.specs.ValueModel.{as_value}
use Rattle.cql_values.specs.declared.value.Value.TheVariants.{Set}
use Rattle.cql_columns.proofs.Keeping.{KeptTo}
use Rattle.cql_operators.proofs.squares.keep_by_sets.Given as goal

abbrev pub invariant-loop-n : goal.invariant-loop-n
invariant-loop-n l = KeptTo (λ n. has (as_value (Set (get_or l.sets n 0))) l.square) l.fn.there l.n l.there
