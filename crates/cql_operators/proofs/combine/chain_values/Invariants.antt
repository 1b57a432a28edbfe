use Rattle.cql_syntax.specs.Values.{chain_of}
use Rattle.cql_columns.specs.Columns.{all_shown}
use Rattle.cql_columns.proofs.Filling.{FilledTo, of_values}
use Rattle.cql_operators.proofs.combine.chain_values.Given as goal

abbrev pub invariant-loop-n : goal.invariant-loop-n
invariant-loop-n l = FilledTo of_values l.live (λ n. chain_of l.chain (all_shown l.columns n)) l.end l.n l.values.items
