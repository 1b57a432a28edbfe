use Rattle.std.proofs.Common.{◌∙◌, arith, false}
use Rattle.cql_columns.proofs.Filling.{any_default}
use Rattle.cql_candidates.proofs.CoverLaw.{among_none, among_more, among_all}
use Rattle.cql_candidates.proofs.covers.union_at_live.Goals as goal

pub loop-n-init : goal.loop-n-init
loop-n-init c = among_none c.args.live.now c.args.sets.now _

pub loop-n-preserved : goal.loop-n-preserved
loop-n-preserved c =
    among_more c.args.live.now c.args.sets.now c.loop-n.n c.loop-n.among c.set_where-among.result
    (λ asked. c.set_where-among.ensures (any_default c.args.live.now c.loop-n.n _ false (omega (arith, c.loop-n-test.true)) ∙ asked))
    c.loop-n.invariant

pub returns : goal.returns
returns c = among_all c.args.live.now c.args.sets.now c.loop-n.n c.loop-n.among (omega (arith, c.loop-n-test.false)) c.loop-n.invariant
