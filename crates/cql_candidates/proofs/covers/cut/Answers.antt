use Rattle.std.proofs.Common.{arith}
use Rattle.cql_candidates.proofs.CoverLaw.{cut_none, cut_more, cut_all}
use Rattle.cql_candidates.proofs.covers.cut.Goals as goal

pub loop-n-init : goal.loop-n-init
loop-n-init c = cut_none c.args.live.now _ c.args.sets.now

pub loop-n-preserved : goal.loop-n-preserved
loop-n-preserved c =
    cut_more c.args.live.now _ c.args.sets.now c.loop-n.sets c.loop-n.n _ c.cut_one.result _
    (omega (arith, c.loop-n-test.true, c.loop-n.invariant.count, c.requires)) (omega (arith, c.loop-n-test.true)) c.cut_one.ensures c.loop-n.invariant

pub returns : goal.returns
returns c = cut_all c.args.live.now _ c.args.sets.now c.loop-n.sets c.loop-n.n (omega (arith, c.loop-n-test.false)) c.loop-n.invariant
