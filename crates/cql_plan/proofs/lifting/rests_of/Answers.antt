use Rattle.std.proofs.Common.{arith}
use Rattle.cql_syntax.specs.TreeOf.{filter_tree, filters_in, filters_tree}
use Rattle.cql_plan.proofs.InEach.{rests_init, rests_step, rests_end}
use Rattle.cql_plan.proofs.lifting.rests_of.Goals as goal

pub loop-k-init : goal.loop-k-init
loop-k-init c =
    rests_init c.as_slice-filters.result.now (filters_in c.args.members.now) (filters_tree c.args.common.now) _ (filter_tree c.args.first)
    c.as_slice-filters.ensures.items c.in_ok-rests.ensures c.requires

pub loop-k-preserved : goal.loop-k-preserved
loop-k-preserved c =
    rests_step c.as_slice-filters.result.now c.loop-k.k c.index-filters-k.result (filters_tree c.args.common.now) (filters_tree c.loop-k.rests) _ _
    c.loop-k-test.true c.index-filters-k.is c.loop-k.invariant c.in_ok-rest_of.ensures c.in_ok-push.ensures.tree

pub returns : goal.returns
returns c =
    rests_end c.as_slice-filters.result.now c.loop-k.k _ (filters_tree c.args.common.now) _ (omega (arith, c.loop-k-test.false))
    c.as_slice-filters.ensures.tree c.loop-k.invariant
