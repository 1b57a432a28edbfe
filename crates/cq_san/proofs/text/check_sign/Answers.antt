use Rattle.std.proofs.Common.{sym, ◌∙◌}
use Rattle.std.proofs.lemmas.Bool.{false≢true}
use Rattle.cq_san.proofs.Signs.{signs_say}
use Rattle.cq_san.proofs.text.check_sign.Goals as goal

pub returns-then-is_mate : goal.returns-then-is_mate
returns-then-is_mate c =
    sym ((signs_say c.args.position.now c.is_position.ensures.kept.whole).mate.1 (c.is_mate.ensures.0 c.if-is_mate.true))

pub returns-else-is_mate : goal.returns-else-is_mate
returns-else-is_mate c =
    sym ((signs_say c.args.position.now c.is_position.ensures.kept.whole).check.1
    (c.requires, λ mate. false≢true (sym c.if-is_mate.false ∙ c.is_mate.ensures.1 mate)))
