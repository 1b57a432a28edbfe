use Rattle.std.proofs.Common.{arith}
use Rattle.cql_columns.proofs.Filling.{none_before}
use Rattle.cql_columns.proofs.spans.first_live_node.Goals as goal

pub loop-n-init : goal.loop-n-init
loop-n-init c = λ n h. absurd (omega (arith, h))

pub loop-n-preserved : goal.loop-n-preserved
loop-n-preserved c = none_before c.args.live.now c.loop-n.n c.if-live-n.false c.loop-n.invariant

pub returns-clause-none : goal.returns-clause-none
returns-clause-none c = λ n h. c.loop-n.invariant n (omega (arith, h, c.loop-n-test.false))

pub returns-then-live-n-clause-none : goal.returns-then-live-n-clause-none
returns-then-live-n-clause-none c = c.loop-n.invariant
