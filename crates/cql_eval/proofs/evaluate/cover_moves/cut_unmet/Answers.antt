use Rattle.std.proofs.Common.{◌≡◌, ◌∙◌, false, get_or, option_map, true}
use Rattle.cql_syntax.specs.Values.{as_truth, holds}
use Rattle.cql_columns.specs.Columns.{is_live, shown}
use Rattle.cql_columns.specs.Scopes.{tree_in}
use Rattle.cql_candidates.specs.MoveTargets.{move_matches}
use Rattle.cql_candidates.proofs.CoverForms.{yes_both}
use Rattle.cql_candidates.proofs.CoverLaw.{cut_as}
use Rattle.cql_eval.proofs.evaluate.cover_moves.cut_unmet.Goals as goal

pub returns-clause-cut : goal.returns-clause-cut
returns-clause-cut c =
    cut_as c.args.live.now
    (λ n s. move_matches (tree_in c.args.scope.now) c.args.parts (option_map (λ x. shown x n) c.args.goal) n ≡ true)
    (λ n s. holds (as_truth (get_or c.in_ok-met.field-0.items n false)) ≡ true) c.args.sets.now c.retain_where_holds.new.sets
    (λ n s a asked. (rw c.in_ok-met.was at c.matching_moves-met.ensures) n
    ∙ yes_both (is_live c.args.live.now n) (move_matches (tree_in c.args.scope.now) c.args.parts (option_map (λ x. shown x n) c.args.goal) n) a asked)
    c.retain_where_holds.ensures
