use Rattle.std.proofs.Common.{◌&&◌, sym, ap, ◌∙◌}
use Rattle.cq_moves.specs.Internal.Mover.{is_free}
use Rattle.cq_moves.proofs.Origins.{piece_reaches}
use Rattle.cq_moves.proofs.legality.reaches_seen.Goals as goal

pub returns-then-goes_seen-clause-reaches : goal.returns-then-goes_seen-clause-reaches
returns-then-goes_seen-clause-reaches c =
    let p = c.args.position.now in
    let m = c.args.m.now in
    c.is_free.ensures ∙ ap (λ t. t && is_free p m.to) (sym c.if-goes_seen.true ∙ c.goes_seen.ensures) ∙ piece_reaches p m.from m.to c.args.piece c.requires.piece

pub returns-else-goes_seen-clause-reaches : goal.returns-else-goes_seen-clause-reaches
returns-else-goes_seen-clause-reaches c =
    let p = c.args.position.now in
    let m = c.args.m.now in
    c.if-goes_seen.false ∙ ap (λ t. t && is_free p m.to) (sym c.if-goes_seen.false ∙ c.goes_seen.ensures) ∙ piece_reaches p m.from m.to c.args.piece c.requires.piece
