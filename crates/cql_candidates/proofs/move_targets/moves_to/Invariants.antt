use Rattle.std.specs.Prelude.{◌&&◌, get_or, length}
use Rattle.cql_columns.specs.Scopes.{tree_in}
use Rattle.cql_columns.specs.Columns.{is_live}
use Rattle.cql_columns.proofs.Filling.{ToldTo}
use Rattle.cql_candidates.specs.MoveTargets.{move_to_set_matches}
use Rattle.cql_candidates.proofs.move_targets.moves_to.Given as goal

abbrev pub invariant-loop-n : goal.invariant-loop-n
invariant-loop-n l =
    ToldTo (λ n. is_live l.live n && move_to_set_matches (tree_in l.scope) l.parts (get_or l.sets n 0) n) (length l.scope.game.now.nodes) l.n l.truths.items
