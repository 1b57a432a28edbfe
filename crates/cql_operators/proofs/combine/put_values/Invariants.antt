use Rattle.std.specs.Prelude.{◌≡◌, map, take}
use Rattle.cql_values.specs.ValueModel.{as_value}
use Rattle.cql_columns.specs.Columns.{all_shown}
use Rattle.cql_operators.proofs.combine.put_values.Given as goal

abbrev pub invariant-loop-column : goal.invariant-loop-column
invariant-loop-column l = map as_value l.row.items ≡ all_shown (take l.column-index l.columns) l.n
