use Rattle.std.specs.Prelude.{◌≡◌, take}
use Rattle.cql_values.specs.ValueModel.{terms_as_values}
use Rattle.cql_columns.specs.Columns.{terms_shown}
use Rattle.cql_operators.proofs.combine.put_terms.Given as goal

abbrev pub invariant-loop-term : goal.invariant-loop-term
invariant-loop-term l = terms_as_values l.row.items ≡ terms_shown (take l.term-index l.terms) l.n
