use Rattle.std.proofs.Common.{◌≡◌, length, subst, ap, ◌∙◌, arith}
use Rattle.cql_plain.specs.Internal.Paths.{step_down}
use Rattle.cql_values.specs.Trees.{searched_tree}
use Rattle.cql_plain.proofs.PathsDown.{AreDown, down_more, down_paths}
use Rattle.cql_plain.proofs.paths.paths_down.Goals as goal

pub loop-k-preserved : goal.loop-k-preserved
loop-k-preserved c =
    let tree = searched_tree c.args.game.now c.args.variations in
    down_more tree c.requires.tree c.args.primary c.args.n c.loop-k.k c.loop-k.steps.items c.push.new.self.items c.path_step_down-reached.result
    (c.path_step_down-reached.ensures ∙ ap (λ s. step_down tree c.args.primary c.args.n s c.loop-k.k) c.deref.ensures.value) c.in_ok-push.ensures.items c.loop-k.invariant

pub returns : goal.returns
returns c =
    let all : c.loop-k.k ≡ length c.args.game.now.nodes = omega (arith, c.len-k-end.ensures.len) in
    down_paths (searched_tree c.args.game.now c.args.variations) c.requires.tree c.args.primary c.args.n c.loop-k.steps.items c.requires.node
    (subst (λ k. AreDown (searched_tree c.args.game.now c.args.variations) c.args.primary c.args.n k c.loop-k.steps.items) all c.loop-k.invariant)
