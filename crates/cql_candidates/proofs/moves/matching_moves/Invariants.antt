use Rattle.std.specs.Prelude.{◌&&◌, option_map, length}
use Rattle.cql_columns.specs.Scopes.{tree_in}
use Rattle.cql_columns.specs.Columns.{is_live, shown}
use Rattle.cql_columns.proofs.Filling.{ToldTo}
use Rattle.cql_candidates.specs.MoveTargets.{move_matches}
use Rattle.cql_candidates.proofs.moves.matching_moves.Given as goal

abbrev pub invariant-loop-n : goal.invariant-loop-n
invariant-loop-n l =
    ToldTo (λ n. is_live l.live n && move_matches (tree_in l.scope) l.parts (option_map (λ c. shown c n) l.goal) n) (length l.scope.game.now.nodes) l.n l.truths.items
