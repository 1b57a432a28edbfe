use Rattle.std.proofs.Common.{arith, false, refl}
use Rattle.cql_columns.proofs.Keeping.{kept_from, kept_more, kept_to}
use Rattle.cql_candidates.proofs.moves.keep_promotions.Goals as goal

pub loop-n-init : goal.loop-n-init
loop-n-init c = kept_from _ c.args.left.now c.first_live_node-n.result c.first_live_node-n.ensures.none

pub loop-n-preserved : goal.loop-n-preserved
loop-n-preserved c =
    kept_more _ c.args.left.now c.loop-n.left _ c.loop-n.n false c.is_promoted.result
    (omega (arith, c.loop-n-test.true, c.loop-n.auto.left, c.live_node_end-n-end.ensures.most, c.requires)) refl c.is_promoted.ensures c.loop-n.invariant

pub returns : goal.returns
returns c = kept_to _ c.args.left.now c.loop-n.left _ c.loop-n.n c.loop-n-test.false c.live_node_end-n-end.ensures.none c.loop-n.invariant
