use Rattle.std.proofs.Common.{ℕ, sym, ap, ◌∙◌, subst}
use Rattle.std.specs.List.{list_all}
use Rattle.cql_syntax.specs.TreeOf.{filter_tree, filters_tree}
use Rattle.cql_syntax.specs.Values.{holds}
use Rattle.cql_local.specs.Internal.Candidates.{KeepsCandidates, value_with, values_with}
use Rattle.cql_local.specs.NodeScopes.{tree_of}
use Rattle.cql_local.proofs.Cutting.{cut_again, each_passes, uncut}
use Rattle.cql_local.proofs.candidates.+candidates.Goals as goal

pub candidates_in_all-loop-part-preserved : goal.candidates_in_all-loop-part-preserved
candidates_in_all-loop-part-preserved t c =
    let trial = c.args.trial.now in
    cut_again (λ s. list_all holds (values_with trial (filters_tree c.args.parts.now) s)) (λ s. holds (value_with trial (filter_tree c.part-item.result) s))
    c.args.set c.loop-part.left c.candidates-left.result
    (λ s i e. each_passes holds (tree_of trial.place.now) _ trial.place.now.node c.as_slice-part-items.result.now c.loop-part.part-index c.part-item.result c.loop-part-test.true c.part-item.is
    (ap (λ fs. list_all holds (values_with trial fs s)) c.as_slice-part-items.ensures.tree ∙ e))
    c.loop-part.invariant c.candidates-left.ensures

pub candidates-returns-then-set-eq0 : goal.candidates-returns-then-set-eq0
candidates-returns-then-set-eq0 t c =
    let test = λ (s : ℕ). holds (value_with c.args.trial.now (filter_tree c.args.asked.now) s) in
    subst (λ m. KeepsCandidates test m 0) (sym c.if-set-eq0.true) (uncut test 0)
