use Rattle.std.proofs.Common.{◌∙◌, ap, arith, refl}
use Rattle.cql_operators.specs.Internal.NodeSets.{set_of_node}
use Rattle.cql_operators.proofs.OtherNodesLaw.{have_more, parent_sets_all}
use Rattle.cql_operators.proofs.from_other_nodes.from_parents.Goals as goal

pub loop-k-init : goal.loop-k-init
loop-k-init c = record { count = omega (arith, c.in_ok-back.ensures, c.len.ensures.len); each = λ n low. absurd (omega (arith, low)) }

pub loop-k-preserved : goal.loop-k-preserved
loop-k-preserved c =
    have_more _ _ c.loop-k.k c.set_of.result c.loop-k.back.items _ (omega (arith, c.loop-k-test.true, c.len-k-end.ensures.len)) refl
    (c.set_of.ensures ∙ ap (set_of_node c.args.there.now) c.parent.ensures.value) c.loop-k.invariant

pub returns : goal.returns
returns c =
    parent_sets_all c.args.game.now.nodes c.args.there.now c.loop-k.back.items c.loop-k.k
    (omega (arith, c.loop-k-test.false, c.len-k-end.ensures.len, c.loop-k.auto.k-end)) c.loop-k.invariant
