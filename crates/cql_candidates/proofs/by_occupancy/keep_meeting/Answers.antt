use Rattle.std.proofs.Common.{arith, false, refl}
use Rattle.cql_columns.proofs.Keeping.{kept_from, kept_more, kept_to}
use Rattle.cql_candidates.proofs.by_occupancy.keep_meeting.Goals as goal

pub loop-n-init : goal.loop-n-init
loop-n-init c = kept_from _ c.args.held.now c.first_live-n.result c.first_live-n.ensures.none

pub loop-n-preserved : goal.loop-n-preserved
loop-n-preserved c =
    kept_more _ c.args.held.now c.loop-n.held _ c.loop-n.n false c.kept_meeting.result
    (omega (arith, c.loop-n-test.true, c.loop-n.auto.held, c.live_end-n-end.ensures.most)) refl c.kept_meeting.ensures c.loop-n.invariant

pub returns : goal.returns
returns c = kept_to _ c.args.held.now c.loop-n.held _ c.loop-n.n c.loop-n-test.false c.live_end-n-end.ensures.none c.loop-n.invariant
