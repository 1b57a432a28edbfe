use Rattle.std.proofs.Common.{ℕ, Bool, ◌∷◌, [], sym, ◌∙◌}
use Rattle.std.specs.Prelude.{bit_and}
use Rattle.cq_position.specs.Led.{led_to}
use Rattle.cql_syntax.specs.Meaning.{played_value, before}
use Rattle.cql_syntax.specs.TreeOf.{played_tree}
use Rattle.cql_local.specs.NodeScopes.{tree_of}
use Rattle.cql_local.proofs.Cutting.{none_met, nothing_left, not_led, cut_common, uncut, on_board, move_meets}
use Rattle.cql_local.proofs.candidates.candidates_in_move.Goals as goal

pub returns-in_default : goal.returns-in_default
returns-in_default c =
    let trial = c.args.trial.now in
    let place = trial.place.now in
    nothing_left (λ s. played_value (tree_of place) [] ((trial.name.now, s) ∷ trial.names.now) (played_tree c.args.played.now) place.node) c.args.set
    (λ s h. none_met (tree_of place) ((trial.name.now, s) ∷ trial.names.now) place.node (played_tree c.args.played.now)
    (not_led (led_to place.game.now.nodes place.node) c.led_to.result c.led_to.ensures c.in_default.is) h)

pub returns : goal.returns
returns c =
    let trial = c.args.trial.now in
    let place = trial.place.now in
    let tree = tree_of place in
    let e = λ (s : ℕ). (trial.name.now, s) ∷ trial.names.now in
    let p = c.args.played.now in
    let set = c.args.set in
    let test : ℕ → Bool = λ s. played_value tree [] (e s) (played_tree p) place.node in
    let fits = c.ranges.set.fits in
    let is = sym c.in-Some.is ∙ c.led_to.ensures in
    cut_common test set (bit_and (bit_and set c.allowed.result) c.allowed-2.result) c.allowed-3.result
    (λ s i h. c.allowed-3.ensures.keeps tree trial.names.now (before tree place.node) s (on_board set s fits i) (move_meets tree (e s) place.node p c.in-Some.led is h).taken_met)
    (cut_common test set (bit_and set c.allowed.result) c.allowed-2.result
    (λ s i h. c.allowed-2.ensures.keeps tree trial.names.now place.node s (on_board set s fits i) (move_meets tree (e s) place.node p c.in-Some.led is h).goal_met)
    (cut_common test set set c.allowed.result (λ s i h. c.allowed.ensures.keeps tree trial.names.now (before tree place.node) s (on_board set s fits i) (move_meets tree (e s) place.node p c.in-Some.led is h).origin_met)
    (uncut test set)))
