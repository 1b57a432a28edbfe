use Rattle.std.proofs.Common.{arith}
use Rattle.cql_columns.specs.Scopes.{tree_in}
use Rattle.cql_operators.proofs.Widening.{widened_more, widened_all}
use Rattle.cql_operators.proofs.tree.below.Goals as goal

pub loop-k-init : goal.loop-k-init
loop-k-init c = record {
  count = omega (arith, c.in_ok-wide.ensures, c.len.ensures.len);
  searched = λ n low. absurd (omega (arith, low));
  covers = λ n m low. absurd (omega (arith, low));
}

pub loop-k-preserved : goal.loop-k-preserved
loop-k-preserved c =
    widened_more (tree_in c.args.scope.now) c.requires.tree c.args.live.now _ c.loop-k.k c.loop-k.wide.items
    c.is_wide.result _ c.deref.ensures.value (omega (arith, c.loop-k-test.true, c.len-k-end.ensures.len)) c.is_wide.ensures c.loop-k.invariant

pub returns : goal.returns
returns c =
    widened_all (tree_in c.args.scope.now) c.args.live.now c.loop-k.k c.loop-k.wide.items
    (omega (arith, c.loop-k-test.false, c.loop-k.auto.k-end, c.len-k-end.ensures.len)) c.loop-k.invariant
