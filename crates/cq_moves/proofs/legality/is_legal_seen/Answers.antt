use Rattle.std.proofs.Common.{◌&&◌, sym, ap, ◌∙◌}
use Rattle.cq_position.specs.Legal.{promotion_is_right}
use Rattle.cq_position.specs.Legality.{is_safe}
use Rattle.cq_moves.proofs.Law.{passes_in_parts}
use Rattle.cq_moves.proofs.legality.is_legal_seen.Goals as goal

pub returns-else-reaches_seen : goal.returns-else-reaches_seen
returns-else-reaches_seen c =
    let p = c.args.position.now in
    let m = c.args.m.now in
    c.if-reaches_seen.false ∙ ap (λ t. t && promotion_is_right p m && is_safe p m) (sym c.if-reaches_seen.false ∙ c.reaches_seen.ensures.reaches)
    ∙ sym (passes_in_parts p m c.requires.null c.reaches_seen.ensures.board)
