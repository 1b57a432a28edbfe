use Rattle.std.proofs.Common.{◌∙◌, ap, arith}
use Rattle.cql_syntax.specs.Values.{count}
use Rattle.cql_columns.proofs.Filling.{put_none, put_more, put_all, any_default, of_values}
use Rattle.cql_operators.proofs.words.counted_values.Goals as goal

pub loop-n-init : goal.loop-n-init
loop-n-init c = put_none of_values c.args.live.now _ _ _ _ c.in_ok-values.ensures c.live_node_end-end.ensures.none c.first_live_node-n.ensures.none

pub loop-n-preserved : goal.loop-n-preserved
loop-n-preserved c =
    put_more of_values c.args.live.now _ _ c.loop-n.n c.loop-n.values.items c.count_value.result c.loop-n-test.true
    (λ a. c.count_value.ensures ∙ ap count (c.index.ensures
    ∙ any_default c.in_ok-counts.counts.items c.loop-n.n _ 0 (omega (arith, c.loop-n-test.true, c.live_node_end-end.ensures.most, c.in_ok-counts.ensures.size))
    ∙ c.in_ok-counts.ensures.each c.loop-n.n (omega (arith, c.loop-n-test.true, c.live_node_end-end.ensures.most)))) c.loop-n.invariant

pub returns : goal.returns
returns c = put_all of_values c.args.live.now _ _ c.loop-n.n c.loop-n.values.items c.loop-n-test.false c.loop-n.invariant
