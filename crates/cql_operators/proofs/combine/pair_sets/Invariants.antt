use Rattle.cq_position.specs.Games.{node_at}
use Rattle.cql_syntax.specs.Values.{as_squares, has, pair_of}
use Rattle.cql_columns.specs.Columns.{shown}
use Rattle.cql_columns.proofs.Filling.{FilledTo, of_sets}
use Rattle.cql_operators.proofs.combine.pair_sets.Given as goal

abbrev pub invariant-loop-n : goal.invariant-loop-n
invariant-loop-n l =
    FilledTo of_sets l.live
    (λ n. as_squares (has (pair_of (node_at l.scope.game.now.nodes n).position.men l.pair (shown l.first n) (shown l.second n)))) l.end l.n l.sets.items
