use Rattle.cq_position.specs.Games.{node_at}
use Rattle.cql_values.specs.FilterValues.{unary_result}
use Rattle.cql_columns.specs.Columns.{shown}
use Rattle.cql_columns.proofs.Filling.{FilledTo, of_values}
use Rattle.cql_operators.proofs.combine.unary_values.Given as goal

abbrev pub invariant-loop-n : goal.invariant-loop-n
invariant-loop-n l = FilledTo of_values l.live (λ n. unary_result (node_at l.scope.game.now.nodes n).position.men l.word (shown l.column n)) l.end l.n l.values.items
