use Rattle.std.proofs.Common.{sym, ap, ◌∙◌}
use Rattle.cq_position.specs.Attacks.{in_check}
use Rattle.cq_moves.proofs.Stuck.{stalemate_law, no_stalemate}
use Rattle.cq_moves.proofs.mate.is_stalemate.Goals as goal

pub returns-then-not-has_legal_move : goal.returns-then-not-has_legal_move
returns-then-not-has_legal_move c =
    let p = c.args.position.now in
    stalemate_law p c.in_check.result c.side.ensures.kept.whole (sym c.has_legal_move.ensures ∙ c.if-not-has_legal_move.true)
    (c.in_check.ensures ∙ ap (in_check p.men) c.side.ensures.side)

pub returns-else-not-has_legal_move : goal.returns-else-not-has_legal_move
returns-else-not-has_legal_move c =
    no_stalemate c.args.position.now c.has_legal_move.result c.has_legal_move.ensures c.if-not-has_legal_move.false
