use Rattle.std.proofs.Common.{◌∙◌, ap}
use Rattle.cql_syntax.specs.Values.{reached_of}
use Rattle.cql_values.specs.ValueModel.{as_value}
use Rattle.cql_columns.proofs.Filling.{put_none, put_more, put_all, of_values}
use Rattle.cql_operators.proofs.combine.reached_values.Goals as goal

pub loop-n-init : goal.loop-n-init
loop-n-init c = put_none of_values c.args.live.now _ _ _ _ c.in_ok-values.ensures c.live_end-end.ensures.none c.first_live-n.ensures.none

pub loop-n-preserved : goal.loop-n-preserved
loop-n-preserved c =
    put_more of_values c.args.live.now _ _ c.loop-n.n c.loop-n.values.items c.reached_value.result c.loop-n-test.true
    (λ asked. c.reached_value.ensures asked ∙ ap (λ v. reached_of c.args.directions.now c.args.least c.args.most (as_value v)) c.at.ensures) c.loop-n.invariant

pub returns : goal.returns
returns c = put_all of_values c.args.live.now _ _ c.loop-n.n c.loop-n.values.items c.loop-n-test.false c.loop-n.invariant
