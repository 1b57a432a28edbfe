-- The goals of squares that are tried all at once, in the recursion over filters.
use Rattle.std.proofs.Common.{◌≡◌, ◌∙◌, ap, refl, sym, subst, arith, length}
use Rattle.std.specs.Prelude.{get_or}
use Rattle.std.proofs.lemmas.Option.{IfSome_then}
use Rattle.cql_syntax.specs.TreeOf.{filter_tree, form_tree, filters_tree, played_tree}
use Rattle.cql_syntax.specs.Trees.{filter_at, more_filters, no_filters}
use Rattle.cql_syntax.specs.Values.{as_truth, square_of}
use Rattle.cql_columns.specs.Columns.{shown}
use Rattle.cql_columns.specs.Scopes.{tree_in}
use Rattle.cql_columns.specs.FlatTrees.{unflat}
use Rattle.cql_candidates.specs.MoveTargets.{TestsGoal}
use Rattle.cql_candidates.specs.Promoting.{ArePromoting}
use Rattle.cql_candidates.proofs.AttackLaw.{only_one}
use Rattle.cql_eval.proofs.FlatLaw.{filter_flat, form_flat}
use Rattle.cql_eval.proofs.FormLaws.{IfOk_then}
use Rattle.cql_candidates.proofs.MoveTargetsLaw.{goal_alone, goal_chain, goal_form, goal_met_is, went}
use Rattle.cql_eval.proofs.evaluate.+evaluate.Goals as goal

pub goals::goal_truths-returns-in-Played-clause-value : goal.goals::goal_truths-returns-in-Played-clause-value
goals::goal_truths-returns-in-Played-clause-value g t c =
    IfOk_then c.goal_met.result c.goal_met.ensures.value (λ at_once given. IfSome_then at_once given (λ truths are n l. are n l
    ∙ sym (goal_form (tree_in c.args.binding.now.scope.now) c.args.binding.now.scope.now.names.now c.args.binding.now.name.now c.args.binding.now.every (shown c.args.binding.now.squares.now n) n c.args.asked.now.at (filter_tree c.args.asked.now) (played_tree c.in-Played.played)
    (ap (λ form. filter_at c.args.asked.now.at (form_tree form)) c.in-Played.is))))

pub goals::goal_truths-loop-part-init : goal.goals::goal_truths-loop-part-init
unfolding unflat
goals::goal_truths-loop-part-init g t c = record {
  first = refl;
  cost = refl;
  flat = λ i f h e. filter_flat c.as_slice-part-items.result.now i f (filters_tree c.in-Chain.parts) h e c.as_slice-part-items.ensures.tree
      (form_flat c.args.asked.now _ (ap form_tree c.in-Chain.is) c.requires.flat);
}

pub goals::goal_truths-returns-in-loop-part-clause-value : goal.goals::goal_truths-returns-in-loop-part-clause-value
goals::goal_truths-returns-in-loop-part-clause-value g t c =
    let long : length c.as_slice-part-items.result.now ≡ 1 = omega (arith, ap length c.as_slice-part-items.ensures.items, c.len.ensures, c.if-len-ne1.false) in
    let first : c.part-item.result ≡ get_or c.as_slice-part-items.result.now 0 c.part-item.result =
    c.part-item.is ∙ ap (λ i. get_or c.as_slice-part-items.result.now i c.part-item.result) c.loop-part.invariant.first in
    let one = only_one (λ f. f ≡ filter_tree c.part-item.result) c.as_slice-part-items.result.now c.part-item.result long first refl in
    IfOk_then c.goal_truths.result c.goal_truths.ensures.value (λ at_once given. IfSome_then at_once given (λ truths are n l. are n l
    ∙ sym (goal_alone (tree_in c.args.binding.now.scope.now) c.args.binding.now.scope.now.names.now c.args.binding.now.name.now c.args.binding.now.every (shown c.args.binding.now.squares.now n) n c.in-Chain.chain (filters_tree c.in-Chain.parts) (filter_tree c.part-item.result)
    (c.is_conjunction.ensures c.if-not-is_conjunction.false) (sym c.as_slice-part-items.ensures.tree ∙ one.are ∙ ap (λ f. more_filters f no_filters) one.is))
    ∙ sym (goal_chain (tree_in c.args.binding.now.scope.now) c.args.binding.now.scope.now.names.now c.args.binding.now.name.now c.args.binding.now.every (shown c.args.binding.now.squares.now n) n c.args.asked.now.at (filter_tree c.args.asked.now) c.in-Chain.chain (filters_tree c.in-Chain.parts)
    (ap (λ form. filter_at c.args.asked.now.at (form_tree form)) c.in-Chain.is))))

pub goals::goal_met-returns-clause-value : goal.goals::goal_met-returns-clause-value
goals::goal_met-returns-clause-value g t c =
    let tree = tree_in c.args.binding.now.scope.now in
    let looked : ArePromoting tree c.is_some-promotes.result c.args.live.now c.as_slice-some.result.now
    = subst (ArePromoting tree c.is_some-promotes.result c.args.live.now) (sym c.as_slice-some.ensures.value) c.in_ok-some.ensures in
    IfOk_then c.moves_to_square-there.result c.moves_to_square-there.ensures (λ there given. IfSome_then there given (λ truths are n l.
    let at = are n in
    ap as_truth at.2
    ∙ goal_met_is c.args.binding.now c.args.played.now c.args.live.now c.as_slice-some.result.now at.0 n c.in_ok-parts.parts
    (subst (λ o. TestsGoal o c.args.binding.now.name.now c.args.played.now) c.requires.opened (c.tests_goal.ensures c.if-not-tests_goal.false))
    (subst (λ wanted. ArePromoting tree wanted c.args.live.now c.as_slice-some.result.now) c.is_some-promotes.ensures looked) at.1 c.in_ok-parts.ensures.value l
    ∙ ap (λ every. square_of every (shown c.args.binding.now.squares.now n) (went c.args.binding.now c.args.played.now n)) (sym c.requires.some)))
