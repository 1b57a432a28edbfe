use Rattle.std.proofs.Common.{arith}
use Rattle.cq_shared.proofs.Unions.{kept_as, kept_where}
use Rattle.cq_shared.proofs.narrowing.narrowed_if.Goals as goal

pub returns-then-not-wants : goal.returns-then-not-wants
returns-then-not-wants c = kept_as c.args.left.there.items c.args.truths.now c.args.wants c.if-not-wants.true

pub returns : goal.returns
returns c =
    kept_where c.args.wants c.args.left.there.len c.keep_true.new.left c.args.left.there.items c.deref_mut.result.now c.args.truths.now c.if-not-wants.false
    (omega (arith, c.keep_true.ensures.count, c.deref_mut.ensures.len)) c.deref_mut.ensures.value c.keep_true.ensures
