use Rattle.std.proofs.Common.{arith, refl}
use Rattle.cql_candidates.proofs.CoverSome.{joined_more}
use Rattle.cql_candidates.proofs.covers.add_sets.Goals as goal

pub loop-n-preserved : goal.loop-n-preserved
loop-n-preserved c =
    joined_more c.args.more.now c.args.sets.now c.loop-n.sets _ c.loop-n.n _ c.joined.result
    (omega (arith, c.loop-n-test.true, c.loop-n.invariant.count)) refl c.joined.ensures c.loop-n.invariant
