use Rattle.std.proofs.Common.{arith, false, refl}
use Rattle.cql_columns.proofs.Keeping.{kept_from, kept_more, kept_to, numbered_by_kept}
use Rattle.cql_operators.proofs.narrow.keep_numbered.Goals as goal

pub loop-n-init : goal.loop-n-init
loop-n-init c = kept_from _ c.args.left.now c.first_live-n.result c.first_live-n.ensures.none

pub loop-n-preserved : goal.loop-n-preserved
loop-n-preserved c =
    kept_more _ c.args.left.now c.loop-n.left _ c.loop-n.n false c.has_number.result
    (omega (arith, c.loop-n-test.true, c.loop-n.auto.left, c.live_end-n-end.ensures.most)) refl c.has_number.ensures c.loop-n.invariant

pub returns-clause-nodes : goal.returns-clause-nodes
returns-clause-nodes c =
    numbered_by_kept c.args.left.now c.loop-n.left c.args.column.now
    (kept_to _ c.args.left.now c.loop-n.left _ c.loop-n.n c.loop-n-test.false c.live_end-n-end.ensures.none c.loop-n.invariant)
