use Rattle.cql_columns.proofs.Filling.{put_none, put_more, put_all, of_values}
use Rattle.cql_operators.proofs.combine.chain_values.Goals as goal

pub loop-n-init : goal.loop-n-init
loop-n-init c = put_none of_values c.args.live.now _ _ _ _ c.in_ok-values.ensures c.live_end-end.ensures.none c.first_live-n.ensures.none

pub loop-n-preserved : goal.loop-n-preserved
loop-n-preserved c =
    put_more of_values c.args.live.now _ _ c.loop-n.n c.loop-n.values.items c.in_ok-values-2.field-0 c.loop-n-test.true c.in_ok-values-2.ensures c.loop-n.invariant

pub returns : goal.returns
returns c = put_all of_values c.args.live.now _ _ c.loop-n.n c.loop-n.values.items c.loop-n-test.false c.loop-n.invariant
