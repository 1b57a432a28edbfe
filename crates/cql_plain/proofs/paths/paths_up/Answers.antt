use Rattle.std.proofs.Common.{None, length, replicate, subst, refl, ap, ◌∙◌, arith}
use Rattle.std.proofs.lemmas.List.{length-replicate}
use Rattle.cql_values.specs.Trees.{searched_tree}
use Rattle.cql_plain.proofs.PathsUp.{AreUp, up_begun, up_more, up_paths}
use Rattle.cql_plain.proofs.paths.paths_up.Goals as goal

pub index_mut-requires : goal.index_mut-requires
index_mut-requires c = omega (arith, (c.loop-next.invariant.inside c.in-Some.k c.in-Some.is).0, c.loop-next.invariant.count)

pub overflow_add-reached : goal.overflow_add-reached
overflow_add-reached c = omega (arith, (c.loop-next.invariant.inside c.in-Some.k c.in-Some.is).0, c.requires.tree.few)

pub overflow_add-reached-in-Some : goal.overflow_add-reached-in-Some
overflow_add-reached-in-Some c = omega (arith, (c.loop-next.invariant.inside c.in-Some.k c.in-Some.is).1, c.requires.tree.few)

pub above-next-requires : goal.above-next-requires
above-next-requires c = omega (arith, (c.loop-next.invariant.inside c.in-Some.k c.in-Some.is).0)

pub loop-next-init : goal.loop-next-init
loop-next-init c =
    let none = c.in_ok-steps.ensures ∙ ap (λ n. replicate n None) c.len.ensures.len in
    up_begun (searched_tree c.args.game.now c.args.variations) c.requires.tree c.args.primary c.args.n c.requires.node c.in_ok-steps.steps.items none
    (ap length none ∙ length-replicate (length c.args.game.now.nodes) None)

pub loop-next-preserved : goal.loop-next-preserved
loop-next-preserved c =
    let tree = searched_tree c.args.game.now c.args.variations in
    up_more tree c.requires.tree c.args.primary c.args.n c.requires.node c.loop-next.steps.items _ c.in-Some.k c.above-next.result c.loop-next.reached _
    (subst (λ o. AreUp tree c.args.primary c.args.n c.loop-next.steps.items o c.loop-next.reached) c.in-Some.is c.loop-next.invariant) refl c.above-next.ensures.value refl

pub returns : goal.returns
returns c =
    let tree = searched_tree c.args.game.now c.args.variations in
    up_paths tree c.requires.tree c.args.primary c.args.n c.requires.node c.loop-next.steps.items c.loop-next.reached
    (subst (λ o. AreUp tree c.args.primary c.args.n c.loop-next.steps.items o c.loop-next.reached) c.in_default.is c.loop-next.invariant)
