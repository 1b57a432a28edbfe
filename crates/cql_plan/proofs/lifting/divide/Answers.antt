use Rattle.std.proofs.Common.{arith}
use Rattle.cql_syntax.specs.TreeOf.{filters_tree}
use Rattle.cql_plan.proofs.InEach.{common_begun_by, divided_begun, divided_step, divided_end}
use Rattle.cql_plan.proofs.lifting.divide.Goals as goal

pub loop-part-init : goal.loop-part-init
loop-part-init c = record {
  parts = divided_begun _ _ c.new-common.ensures.tree c.new-rest.ensures.tree;
  common = common_begun_by (filters_tree c.args.members.now) _ c.new-common.ensures.tree;
}

pub loop-part-preserved : goal.loop-part-preserved
loop-part-preserved c = record {
  parts = divided_step c.as_slice-part-items.result.now c.loop-part.part-index c.part-item.result _ _ c.loop-part-test.true c.part-item.is
      (c.in_ok-put.ensures.parts _ c.loop-part.invariant.parts);
  common = c.in_ok-put.ensures.common c.loop-part.invariant.common;
}

pub returns-clause-parts : goal.returns-clause-parts
returns-clause-parts c =
    divided_end c.as_slice-part-items.result.now c.loop-part.part-index _ _ _ (omega (arith, c.loop-part-test.false)) c.as_slice-part-items.ensures.tree
    c.loop-part.invariant.parts
