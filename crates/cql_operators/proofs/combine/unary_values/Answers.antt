use Rattle.cql_columns.proofs.Filling.{put_none, put_more, put_all, of_values}
use Rattle.cql_operators.proofs.combine.unary_values.Goals as goal

pub loop-n-init : goal.loop-n-init
loop-n-init c = put_none of_values c.args.live.now _ _ _ _ c.in_ok-values.ensures c.live_node_end-end.ensures.none c.first_live_node-n.ensures.none

pub loop-n-preserved : goal.loop-n-preserved
loop-n-preserved c =
    put_more of_values c.args.live.now _ _ c.loop-n.n c.loop-n.values.items c.unary_value.result c.loop-n-test.true c.unary_value.ensures c.loop-n.invariant

pub returns : goal.returns
returns c = put_all of_values c.args.live.now _ _ c.loop-n.n c.loop-n.values.items c.loop-n-test.false c.loop-n.invariant
