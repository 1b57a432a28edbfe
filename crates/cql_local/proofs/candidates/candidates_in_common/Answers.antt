use Rattle.std.proofs.Common.{◌≡◌, ℕ, Bool, true, ap, ◌∙◌, ◌∷◌}
use Rattle.std.specs.List.{list_all}
use Rattle.cql_syntax.specs.TreeOf.{filter_tree, filters_tree}
use Rattle.cql_syntax.specs.Values.{holds, has, intersection_of}
use Rattle.cql_local.specs.Internal.Candidates.{value_with, values_with}
use Rattle.cql_local.specs.NodeScopes.{tree_of}
use Rattle.cql_local.proofs.Cutting.{cut_again, cut_common, each_passes, having_holds, in_common, on_board}
use Rattle.cql_local.proofs.candidates.candidates_in_common.Goals as goal

pub loop-part-preserved : goal.loop-part-preserved
loop-part-preserved c =
    let trial = c.args.trial.now in
    let parts = filters_tree c.args.parts.now in
    let all : ℕ → Bool = λ s. holds (intersection_of (values_with trial parts s)) in
    let had : (s : ℕ) → all s ≡ true → has (value_with trial (filter_tree c.part-item.result) s) s ≡ true
    = λ s h. each_passes (λ v. has v s) (tree_of trial.place.now) ((trial.name.now, s) ∷ trial.names.now) trial.place.now.node
    c.as_slice-part-items.result.now c.loop-part.part-index c.part-item.result c.loop-part-test.true c.part-item.is
    (ap (λ fs. list_all (λ v. has v s) (values_with trial fs s)) c.as_slice-part-items.ensures.tree
    ∙ in_common (tree_of trial.place.now) trial.names.now trial.place.now.node s trial.name.now parts (c.some_gives_only_name.ensures c.if-not-some_gives_only_name.false) h) in
    cut_common all c.args.set c.candidates_if_pair.result c.fixed_or_all.result
    (λ s i h. c.fixed_or_all.ensures s s (on_board c.args.set s c.ranges.set.fits i) (had s h))
    (cut_again all (λ s. holds (value_with trial (filter_tree c.part-item.result) s)) c.args.set c.loop-part.left c.candidates_if_pair.result
    (λ s i h. having_holds (value_with trial (filter_tree c.part-item.result) s) s (on_board c.args.set s c.ranges.set.fits i) (had s h))
    c.loop-part.invariant c.candidates_if_pair.ensures)
