use Rattle.std.specs.Prelude.{get_or, false}
use Rattle.cql_syntax.specs.Values.{holds}
use Rattle.cql_values.specs.ValueModel.{as_value}
use Rattle.cql_values.specs.declared.value.Value.TheVariants.{Truth}
use Rattle.cql_columns.specs.Columns.{is_as_wanted}
use Rattle.cql_columns.proofs.Keeping.{KeptTo}
use Rattle.cql_operators.proofs.narrow.keep_by_values.Given as goal

abbrev pub invariant-loop-n : goal.invariant-loop-n
invariant-loop-n l = KeptTo (λ n. is_as_wanted l.want (holds (as_value (get_or l.values n (Truth false))))) l.fn.left l.n l.left
