use Rattle.std.proofs.Common.{sym, ◌∙◌, arith}
use Rattle.cq_shared.proofs.Unions.{left_here, left_past}
use Rattle.cq_shared.proofs.narrowing.is_left.Goals as goal

pub returns-then-q-left : goal.returns-then-q-left
returns-then-q-left c = c.is_there.ensures ∙ sym (left_here c.args.left.now c.index-left-q.result c.args.q c.args.n c.if-q-left.true c.index-left-q.is)

pub returns : goal.returns
returns c = sym (left_past c.args.left.now c.args.q c.args.n (omega (arith, c.if-q-left.false)))
