use Rattle.std.proofs.Common.{◌∙◌, ap}
use Rattle.std.specs.Prelude.{◌&&◌, not}
use Rattle.cql_syntax.specs.Values.{as_truth, holds}
use Rattle.cql_columns.specs.Columns.{shown}
use Rattle.cql_columns.proofs.Filling.{put_none, put_more, put_all, of_truths}
use Rattle.cql_operators.proofs.combine.negated_truths.Goals as goal

pub loop-n-init : goal.loop-n-init
loop-n-init c = put_none of_truths c.args.live.now _ _ _ _ c.in_ok-truths.ensures c.live_end-end.ensures.none c.first_live-n.ensures.none

pub loop-n-preserved : goal.loop-n-preserved
loop-n-preserved c =
    put_more of_truths c.args.live.now _ _ c.loop-n.n c.loop-n.truths.items c.fails.result c.loop-n-test.true
    (λ asked. ap as_truth (c.fails.ensures ∙ ap (λ b. b && not (holds (shown c.args.column.now c.loop-n.n))) asked)) c.loop-n.invariant

pub returns : goal.returns
returns c = put_all of_truths c.args.live.now _ _ c.loop-n.n c.loop-n.truths.items c.loop-n-test.false c.loop-n.invariant
