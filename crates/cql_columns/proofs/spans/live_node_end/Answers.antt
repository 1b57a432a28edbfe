use Rattle.std.proofs.Common.{arith}
use Rattle.cql_columns.proofs.Filling.{past, none_past}
use Rattle.cql_columns.proofs.spans.live_node_end.Goals as goal

pub loop-end-init : goal.loop-end-init
loop-end-init c = record { most = omega (arith, c.requires); none = λ n far. past c.args.live.now n (omega (arith, far, c.requires)) }

pub loop-end-preserved : goal.loop-end-preserved
loop-end-preserved c = record {
  most = omega (arith, c.loop-end.invariant.most);
  none = none_past c.args.live.now c.loop-end.end c.loop-end-test.true c.if-live-end.false c.loop-end.invariant.none;
}
