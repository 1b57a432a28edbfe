use Rattle.std.proofs.Common.{◌∙◌, ap, sym, rules, ◌<◌, ◌^◌}
use Rattle.std.specs.Prelude.{◌&&◌, get_or, option_map}
use Rattle.cq_position.specs.Led.{led_to}
use Rattle.cql_syntax.specs.Meaning.{before}
use Rattle.cql_columns.specs.Columns.{shown}
use Rattle.cql_columns.specs.Scopes.{tree_in}
use Rattle.cql_candidates.specs.MoveTargets.{move_to_set_matches}
use Rattle.cql_candidates.proofs.MoveTargetsLaw.{moved_once}
use Rattle.cql_candidates.proofs.move_targets.is_moved_to.Goals as goal

pub returns : goal.returns
returns c =
    let tree = tree_in c.args.scope.now in
    let parts = c.args.parts.now in
    let n = c.args.n in
    let fits : c.set_at-set.result < 2 ^ 64 = search rules in
    c.meets_parts.ensures
    ∙ moved_once (led_to tree.game.nodes n) (option_map (λ x. shown x (before tree n)) parts.origin)
    (option_map (λ x. shown x (before tree n)) parts.taken) (option_map (λ x. shown x n) parts.promoted) c.set_at-set.result fits
    ∙ ap (λ set. move_to_set_matches tree parts set n) c.set_at-set.ensures
    ∙ sym (ap (λ asked. asked && move_to_set_matches tree parts (get_or c.args.sets.now n 0) n) c.if-not-asked.false)
