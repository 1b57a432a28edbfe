use Rattle.cql_columns.specs.Columns.{is_live}
use Rattle.cql_operators.proofs.LineTables.{PutUpTo}
use Rattle.cql_operators.proofs.patterns.put_nodes.Given as goal

abbrev pub invariant-loop-n : goal.invariant-loop-n
invariant-loop-n g l = PutUpTo (λ n. is_live l.set n) l.atom l.n l.fn.table l.table
