use Rattle.std.proofs.Common.{arith}
use Rattle.cql_columns.proofs.Filling.{put_asked, told_whole, told_live}
use Rattle.cql_candidates.proofs.move_targets.moves_to.Goals as goal

pub loop-n-preserved : goal.loop-n-preserved
loop-n-preserved c =
    put_asked c.args.live.now _ _ c.loop-n.n c.loop-n.truths.items _ c.is_moved_to.result
    (omega (arith, c.loop-n-test.true, c.len-n-end.ensures.len, c.requires.asked.count)) (omega (arith, c.loop-n-test.true, c.len-n-end.ensures.len))
    c.is_moved_to.ensures c.loop-n.invariant

pub returns : goal.returns
returns c = told_live c.args.live.now _ c.loop-n.n c.loop-n.truths.items
    (omega (arith, c.loop-n-test.false, c.len-n-end.ensures.len, c.requires.asked.count))
    (told_whole _ _ c.loop-n.n c.loop-n.truths.items (omega (arith, c.loop-n-test.false, c.len-n-end.ensures.len, c.loop-n.auto.n-end)) c.loop-n.invariant)
