use Rattle.std.proofs.Common.{◌≡◌, ◌+◌, ◌&&◌, length, get_or, false, ap, ◌∙◌, subst, arith}
use Rattle.cq_common.specs.Greatest.{IsGreatest}
use Rattle.cql_plain.proofs.Lengths.{IsLengthBelow, longest_more, longest_all}
use Rattle.cql_plain.proofs.paths.longest.Goals as goal

pub loop-k-preserved : goal.loop-k-preserved
loop-k-preserved c =
    longest_more c.loop-k.k c.args.steps.now c.args.ends.now c.args.extent.now c.loop-k.best c.with_number-best.result c.nodes_to-nodes.result c.both-counts.result
    c.with_number-best.ensures c.nodes_to-nodes.ensures (c.both-counts.ensures ∙ ap (λ b. get_or c.args.ends.now (c.loop-k.k + 1) false && b) c.allows.ensures) c.loop-k.invariant

pub returns : goal.returns
returns c =
    let all : c.loop-k.k ≡ length c.args.steps.now = omega arith in
    longest_all c.args.steps.now c.args.ends.now c.args.extent.now c.loop-k.best c.requires
    (subst (λ k. IsGreatest (IsLengthBelow k c.args.steps.now c.args.ends.now c.args.extent.now) c.loop-k.best) all c.loop-k.invariant)
