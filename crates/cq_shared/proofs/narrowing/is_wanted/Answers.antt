use Rattle.std.proofs.Common.{sym, ◌∙◌, arith}
use Rattle.cq_shared.specs.Matching.{is_left}
use Rattle.cq_shared.proofs.Unions.{wants_more, wants_here, wants_none}
use Rattle.cq_shared.proofs.narrowing.is_wanted.Goals as goal

pub returns-then-is_left : goal.returns-then-is_left
returns-then-is_left c = sym (wants_here (λ q. is_left c.args.left.now q c.args.n) c.args.owners.now c.loop-k.k _ (omega (arith, c.loop-k-test.true))
    (sym c.is_left.ensures ∙ c.if-is_left.true))

pub loop-k-preserved : goal.loop-k-preserved
loop-k-preserved c = wants_more (λ q. is_left c.args.left.now q c.args.n) c.args.owners.now c.loop-k.k _ (omega (arith, c.loop-k-test.true))
    (sym c.is_left.ensures ∙ c.if-is_left.false) c.loop-k.invariant

pub returns : goal.returns
returns c = sym (wants_none (λ q. is_left c.args.left.now q c.args.n) c.args.owners.now c.loop-k.k (omega (arith, c.loop-k-test.false)) c.loop-k.invariant)
