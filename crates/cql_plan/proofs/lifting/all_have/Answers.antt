use Rattle.std.proofs.Common.{arith}
use Rattle.cql_syntax.specs.TreeOf.{filter_tree}
use Rattle.cql_plan.specs.Replacements.{alone}
use Rattle.cql_plan.proofs.InEach.{common_begun, common_step, common_end}
use Rattle.cql_plan.proofs.lifting.all_have.Goals as goal

pub loop-member-init : goal.loop-member-init
loop-member-init c = common_begun (alone (filter_tree c.args.part.now))

pub loop-member-preserved : goal.loop-member-preserved
loop-member-preserved c =
    common_step c.as_slice-member-items.result.now c.loop-member.member-index c.member-item.result (alone (filter_tree c.args.part.now))
    c.loop-member-test.true c.member-item.is c.loop-member.invariant (c.has_part.ensures c.if-not-has_part.false)

pub returns : goal.returns
returns c = λ all.
    common_end c.as_slice-member-items.result.now c.loop-member.member-index _ (alone (filter_tree c.args.part.now))
    (omega (arith, c.loop-member-test.false)) c.as_slice-member-items.ensures.tree c.loop-member.invariant
