use Rattle.std.proofs.Common.{arith}
use Rattle.cql_syntax.specs.TreeOf.{filters_tree}
use Rattle.cql_plan.proofs.InEach.{left_begun, left_step, left_end}
use Rattle.cql_plan.proofs.lifting.left_of.Goals as goal

pub loop-part-init : goal.loop-part-init
loop-part-init c = left_begun (filters_tree c.args.common.now) _ c.new-rest.ensures.tree

pub loop-part-preserved : goal.loop-part-preserved
loop-part-preserved c =
    left_step c.as_slice-part-items.result.now c.loop-part.part-index c.part-item.result (filters_tree c.args.common.now) _ c.loop-part-test.true c.part-item.is
    (c.in_ok-keep.ensures _ c.loop-part.invariant)

pub returns : goal.returns
returns c =
    left_end c.as_slice-part-items.result.now c.loop-part.part-index _ (filters_tree c.args.common.now) _ (omega (arith, c.loop-part-test.false))
    c.as_slice-part-items.ensures.tree c.loop-part.invariant
