use Rattle.std.proofs.Common.{arith, refl}
use Rattle.cql_columns.proofs.Filling.{put_told}
use Rattle.cql_operators.proofs.tree.children.Goals as goal

pub loop-k-preserved : goal.loop-k-preserved
loop-k-preserved c =
    put_told _ _ c.loop-k.k c.loop-k.wide.items _ c.is_child.result (omega (arith, c.loop-k-test.true, c.len-k-end.ensures.len)) refl c.is_child.ensures c.loop-k.invariant
