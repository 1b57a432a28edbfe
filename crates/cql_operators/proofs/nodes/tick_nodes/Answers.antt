use Rattle.std.proofs.Common.{arith}
use Rattle.cql_operators.proofs.Ticks.{ticks_more, ticks_all}
use Rattle.cql_operators.proofs.nodes.tick_nodes.Goals as goal

pub loop-n-preserved : goal.loop-n-preserved
loop-n-preserved g c =
    ticks_more c.args.live.now c.loop-n.n _ _ c.loop-n.steps c.tick_if.new.steps (omega (arith, c.loop-n-test.true)) c.tick_if.ensures c.loop-n.invariant

pub returns : goal.returns
returns g c = ticks_all c.args.live.now c.loop-n.n _ _ (omega (arith, c.loop-n-test.false)) c.loop-n.invariant
