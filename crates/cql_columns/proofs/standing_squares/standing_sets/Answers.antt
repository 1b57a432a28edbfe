use Rattle.cql_columns.proofs.Filling.{put_none, put_more, put_all, of_sets}
use Rattle.cql_columns.proofs.standing_squares.standing_sets.Goals as goal

pub loop-n-init : goal.loop-n-init
loop-n-init c = put_none of_sets c.args.live.now _ _ _ _ c.in_ok-sets.ensures c.live_node_end-end.ensures.none c.first_live_node-n.ensures.none

pub loop-n-preserved : goal.loop-n-preserved
loop-n-preserved c =
    put_more of_sets c.args.live.now _ _ c.loop-n.n c.loop-n.sets.items c.standing_set.result c.loop-n-test.true c.standing_set.ensures c.loop-n.invariant

pub returns : goal.returns
returns c = put_all of_sets c.args.live.now _ _ c.loop-n.n c.loop-n.sets.items c.loop-n-test.false c.loop-n.invariant
