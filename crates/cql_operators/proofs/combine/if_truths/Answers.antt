use Rattle.std.proofs.Common.{ap}
use Rattle.cql_syntax.specs.Values.{as_truth}
use Rattle.cql_columns.proofs.Filling.{put_none, put_more, put_all, of_truths}
use Rattle.cql_operators.proofs.combine.if_truths.Goals as goal

pub loop-n-init : goal.loop-n-init
loop-n-init c = put_none of_truths c.args.live.now _ _ _ _ c.in_ok-truths.ensures c.live_end-end.ensures.none c.first_live-n.ensures.none

pub loop-n-preserved : goal.loop-n-preserved
loop-n-preserved c =
    put_more of_truths c.args.live.now _ _ c.loop-n.n c.loop-n.truths.items c.is_chosen.result c.loop-n-test.true
    (λ asked. ap as_truth c.is_chosen.ensures) c.loop-n.invariant

pub returns : goal.returns
returns c = put_all of_truths c.args.live.now _ _ c.loop-n.n c.loop-n.truths.items c.loop-n-test.false c.loop-n.invariant
