use Rattle.std.proofs.Common.{arith, false, refl}
use Rattle.cql_columns.proofs.Keeping.{kept_none, kept_more, kept_all}
use Rattle.cql_operators.proofs.squares.keep_by_values.Goals as goal

pub loop-n-init : goal.loop-n-init
loop-n-init c = kept_none _ c.args.there.now

pub loop-n-preserved : goal.loop-n-preserved
loop-n-preserved c =
    kept_more _ c.args.there.now c.loop-n.there _ c.loop-n.n false c.has_there.result (omega (arith, c.loop-n-test.true, c.loop-n.auto.there)) refl
    c.has_there.ensures c.loop-n.invariant

pub returns : goal.returns
returns c = kept_all _ c.args.there.now c.loop-n.there c.loop-n.n (omega (arith, c.loop-n-test.false, c.loop-n.auto.there)) c.loop-n.invariant
