use Rattle.std.proofs.Common.{arith}
use Rattle.cql_columns.proofs.Filling.{put_asked, told_whole, numbered_all}
use Rattle.cql_operators.proofs.combine.numbered.Goals as goal

pub loop-n-init : goal.loop-n-init
loop-n-init c = record { count = c.in_ok-left.ensures; each = λ n low. absurd (omega (arith, low)) }

pub loop-n-preserved : goal.loop-n-preserved
loop-n-preserved c =
    put_asked c.args.live.now _ _ c.loop-n.n c.loop-n.left.items _ c.has_number.result c.loop-n-test.true c.loop-n-test.true
    c.has_number.ensures c.loop-n.invariant

pub returns : goal.returns
returns c = numbered_all c.args.live.now c.args.column.now c.loop-n.n c.loop-n.left.items (omega (arith, c.loop-n-test.false, c.loop-n.auto.n-end))
    (told_whole _ _ c.loop-n.n c.loop-n.left.items (omega (arith, c.loop-n-test.false, c.loop-n.auto.n-end)) c.loop-n.invariant)
