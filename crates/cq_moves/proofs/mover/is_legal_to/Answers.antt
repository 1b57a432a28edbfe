use Rattle.std.proofs.Common.{◌&&◌, sym, ap, ◌∙◌}
use Rattle.cq_position.specs.Legality.{is_safe}
use Rattle.cq_moves.proofs.Law.{pseudo_legal_by_parts}
use Rattle.cq_moves.proofs.Parts.{reached_move}
use Rattle.cq_moves.proofs.mover.is_legal_to.Goals as goal

pub leaves_king_safe-requires-clause-moves : goal.leaves_king_safe-requires-clause-moves
leaves_king_safe-requires-clause-moves c =
    pseudo_legal_by_parts c.args.position.now c.args.m.now c.requires.null c.requires.board c.requires.reaches
    (sym c.promotion_is_right.ensures ∙ c.if-promotion_is_right.true)

pub returns-then-promotion_is_right : goal.returns-then-promotion_is_right
returns-then-promotion_is_right c =
    let p = c.args.position.now in
    let m = c.args.m.now in
    c.leaves_king_safe.ensures ∙ ap (λ t. t && is_safe p m) (sym c.if-promotion_is_right.true ∙ c.promotion_is_right.ensures)
    ∙ sym (reached_move p m c.requires.null c.requires.board c.requires.reaches)

pub returns-else-promotion_is_right : goal.returns-else-promotion_is_right
returns-else-promotion_is_right c =
    let p = c.args.position.now in
    let m = c.args.m.now in
    c.if-promotion_is_right.false ∙ ap (λ t. t && is_safe p m) (sym c.if-promotion_is_right.false ∙ c.promotion_is_right.ensures)
    ∙ sym (reached_move p m c.requires.null c.requires.board c.requires.reaches)
