use Rattle.std.proofs.Common.{arith}
use Rattle.cql_operators.proofs.Lowering.{lowered_more, lowered_all}
use Rattle.cql_operators.proofs.tree.with_descendants.Goals as goal

pub loop-k-init : goal.loop-k-init
loop-k-init c = record {
  count = omega (arith, c.in_ok-found.ensures, c.len.ensures.len);
  to = λ n low. absurd (omega (arith, low));
  from = λ n low. absurd (omega (arith, low));
}

pub loop-k-preserved : goal.loop-k-preserved
loop-k-preserved c =
    lowered_more c.args.game.now.nodes c.requires.tree c.args.set.now _ c.loop-k.k c.loop-k.found.items _
    c.is_under.result c.deref.ensures.value (omega (arith, c.loop-k-test.true, c.len-k-end.ensures.len)) c.is_under.ensures c.loop-k.invariant

pub returns : goal.returns
returns c =
    lowered_all c.args.game.now.nodes c.args.set.now c.loop-k.found.items c.loop-k.k
    (omega (arith, c.loop-k-test.false, c.loop-k.auto.k-end, c.len-k-end.ensures.len)) c.loop-k.invariant
