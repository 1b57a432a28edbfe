use Rattle.std.proofs.Common.{arith, false, refl}
use Rattle.cql_columns.proofs.Keeping.{kept_from, kept_more, kept_to}
use Rattle.cql_operators.proofs.narrow.keep_by_numbers.Goals as goal

pub loop-n-init : goal.loop-n-init
loop-n-init c = kept_from _ c.args.left.now c.first_live-n.result c.first_live-n.ensures.none

pub loop-n-preserved : goal.loop-n-preserved
loop-n-preserved c =
    kept_more _ c.args.left.now c.loop-n.left _ c.loop-n.n false c.kept_by_numbers.result
    (omega (arith, c.loop-n-test.true, c.loop-n.auto.left, c.live_end-n-end.ensures.most)) refl c.kept_by_numbers.ensures c.loop-n.invariant

pub returns : goal.returns
returns c = kept_to _ c.args.left.now c.loop-n.left _ c.loop-n.n c.loop-n-test.false c.live_end-n-end.ensures.none c.loop-n.invariant
