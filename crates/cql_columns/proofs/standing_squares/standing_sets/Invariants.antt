use Rattle.std.specs.Prelude.{Some}
use Rattle.cq_position.specs.Games.{node_at}
use Rattle.cql_syntax.specs.Meaning.{standing_of}
use Rattle.cql_columns.proofs.Filling.{FilledTo, of_sets}
use Rattle.cql_columns.proofs.standing_squares.standing_sets.Given as goal

abbrev pub invariant-loop-n : goal.invariant-loop-n
invariant-loop-n l = FilledTo of_sets l.live (λ n. standing_of (node_at l.scope.game.now.nodes n).position.men (Some l.d)) l.end l.n l.sets.items
