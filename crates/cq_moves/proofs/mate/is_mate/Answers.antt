use Rattle.std.proofs.Common.{ap, sym, ◌∙◌}
use Rattle.cq_position.specs.Attacks.{in_check}
use Rattle.cq_moves.proofs.Stuck.{mate_law}
use Rattle.cq_moves.proofs.mate.is_mate.Goals as goal

pub returns-then-in_check : goal.returns-then-in_check
returns-then-in_check c =
    let p = c.args.position.now in
    mate_law p c.has_legal_move.result c.side.ensures.kept.whole c.has_legal_move.ensures
    (ap (in_check p.men) (sym c.side.ensures.side) ∙ sym c.in_check.ensures ∙ c.if-in_check.true)
