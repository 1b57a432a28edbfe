use Rattle.std.proofs.Common.{sym, ◌∙◌, arith}
use Rattle.cq_position.specs.Attacks.{attacked_king, in_check}
use Rattle.cq_position.proofs.Whole.{any_from-start, any_from-here, any_from-next, any_from-end}
use Rattle.cq_position.proofs.attacks.is_king_attacked.Goals as goal

pub loop-number-init : goal.loop-number-init
unfolding in_check
loop-number-init c = any_from-start (attacked_king c.args.men.now c.args.side)

pub returns-then-is_attacked_king : goal.returns-then-is_attacked_king
returns-then-is_attacked_king c = sym (any_from-here (attacked_king c.args.men.now c.args.side) c.loop-number.number (omega arith)
    (sym (rw c.new.ensures at c.is_attacked_king.ensures) ∙ c.if-is_attacked_king.true)) ∙ c.loop-number.invariant

pub loop-number-preserved : goal.loop-number-preserved
loop-number-preserved c = sym (any_from-next (attacked_king c.args.men.now c.args.side) c.loop-number.number (omega arith)
    (sym (rw c.new.ensures at c.is_attacked_king.ensures) ∙ c.if-is_attacked_king.false)) ∙ c.loop-number.invariant

pub returns : goal.returns
returns c = sym (any_from-end (attacked_king c.args.men.now c.args.side) c.loop-number.number (omega arith)) ∙ c.loop-number.invariant
