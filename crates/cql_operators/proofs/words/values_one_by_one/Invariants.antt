use Rattle.cql_syntax.specs.Meaning.{word_of}
use Rattle.cql_columns.specs.Scopes.{tree_in}
use Rattle.cql_columns.proofs.Filling.{FilledTo, of_values}
use Rattle.cql_operators.proofs.words.values_one_by_one.Given as goal

abbrev pub invariant-loop-n : goal.invariant-loop-n
invariant-loop-n l = FilledTo of_values l.live (word_of (tree_in l.scope) l.word) l.end l.n l.values.items
