use Rattle.std.proofs.Common.{sym, ap, ◌∙◌}
use Rattle.cq_position.specs.Attacks.{in_check}
use Rattle.cq_san.proofs.Signs.{signs_say}
use Rattle.cq_san.proofs.text.sign_of.Goals as goal

pub returns-else-in_check : goal.returns-else-in_check
returns-else-in_check c =
    sym ((signs_say c.args.position.now c.side-side.ensures.kept.whole).none.1
    (ap (in_check c.args.position.now.men) (sym c.side-side.ensures.side) ∙ sym c.in_check.ensures ∙ c.if-in_check.false))
