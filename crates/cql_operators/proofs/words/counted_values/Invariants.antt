use Rattle.cql_syntax.specs.Values.{count}
use Rattle.cql_values.specs.Counts.{moves_on}
use Rattle.cql_columns.proofs.Filling.{FilledTo, of_values}
use Rattle.cql_operators.proofs.words.counted_values.Given as goal

abbrev pub invariant-loop-n : goal.invariant-loop-n
invariant-loop-n l = FilledTo of_values l.live (λ n. count (moves_on l.variations_alone l.scope.game.now.nodes n)) l.end l.n l.values.items
