use Rattle.std.proofs.Common.{false, arith}
use Rattle.cql_columns.specs.Columns.{is_live}
use Rattle.cql_columns.proofs.Filling.{any_default}
use Rattle.cql_operators.proofs.LineTables.{put_begun, put_more}
use Rattle.cql_operators.proofs.patterns.put_nodes.Goals as goal

pub loop-n-init : goal.loop-n-init
loop-n-init g c = put_begun _ c.args.atom _ c.requires.clear

pub loop-n-preserved : goal.loop-n-preserved
loop-n-preserved g c =
    put_more (λ n. is_live c.args.set.now n) c.args.atom c.loop-n.n _ _ c.loop-n.table
    c.put_if.new.table (any_default c.args.set.now c.loop-n.n _ false (omega (arith, c.loop-n-test.true, c.len-n-end.ensures.len, c.requires.set))) c.put_if.ensures c.loop-n.invariant
