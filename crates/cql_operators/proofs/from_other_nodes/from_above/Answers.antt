use Rattle.std.proofs.Common.{arith}
use Rattle.cql_operators.proofs.OtherNodesLaw.{lowered_sets_next, lowered_sets_all}
use Rattle.cql_operators.proofs.from_other_nodes.from_above.Goals as goal

pub loop-k-init : goal.loop-k-init
loop-k-init c = record {
  count = omega (arith, c.in_ok-back.ensures, c.len.ensures.len);
  own = λ n s low. absurd (omega (arith, low));
  leads = λ n p s low. absurd (omega (arith, low));
}

pub loop-k-preserved : goal.loop-k-preserved
loop-k-preserved c =
    lowered_sets_next c.args.game.now.nodes c.args.there.now c.loop-k.back.items _ _ c.loop-k.k c.with_above.result c.requires.tree c.deref.ensures.value
    (omega (arith, c.loop-k-test.true, c.len-k-end.ensures.len)) c.with_above.ensures c.loop-k.invariant

pub returns : goal.returns
returns c =
    lowered_sets_all c.args.game.now.nodes c.args.there.now c.loop-k.back.items c.loop-k.k c.requires.tree
    (omega (arith, c.loop-k-test.false, c.loop-k.auto.k-end, c.len-k-end.ensures.len)) c.loop-k.invariant
