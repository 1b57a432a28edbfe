use Rattle.std.proofs.Common.{◌∙◌, ◌∷◌, [], sym, ap}
use Rattle.cq_position.specs.Continuations.{node_of, nodes_from}
use Rattle.cq_maker.specs.Draws.{next}
use Rattle.cq_maker.specs.Line.{ply_drawn, variation_drawn}
use Rattle.cq_maker.proofs.Drawn.{does_vary, does_not_vary, after_one, after_none}
use Rattle.cq_maker.proofs.Plies.{varied, not_varied, rows_pushed, nothing_pushed}
use Rattle.cq_maker.proofs.line.draw_variation.Goals as goal

pub returns-in_ok-push-clause-rows : goal.returns-in_ok-push-clause-rows
returns-in_ok-push-clause-rows c =
    let p = c.args.position.now in
    let x = c.args.draws.now in
    rows_pushed c.args.beside.now.items c.push.new.self.items c.draw_row.result (nodes_from c.args.parent 0 (variation_drawn p x)) c.in_ok-push.ensures.items
    (ap (λ n. n ∷ []) (c.draw_row.ensures.row ∙ ap (λ s. node_of c.args.parent (ply_drawn p s)) c.below.ensures.state)
    ∙ sym (varied c.args.parent 0 p x (does_vary x c.below.result c.below.ensures.number c.if-below-eq0.true)))

pub returns-in_ok-push-clause-state : goal.returns-in_ok-push-clause-state
returns-in_ok-push-clause-state c =
    let x = c.args.draws.now in
    c.draw_row.ensures.state ∙ ap next c.below.ensures.state ∙ sym (after_one x (does_vary x c.below.result c.below.ensures.number c.if-below-eq0.true))

pub returns-else-below-eq0-clause-rows : goal.returns-else-below-eq0-clause-rows
returns-else-below-eq0-clause-rows c =
    let x = c.args.draws.now in
    nothing_pushed c.args.beside.now.items (nodes_from c.args.parent 0 (variation_drawn c.args.position.now x))
    (not_varied c.args.parent 0 c.args.position.now x (does_not_vary x c.below.result c.below.ensures.number c.if-below-eq0.false))

pub returns-else-below-eq0-clause-state : goal.returns-else-below-eq0-clause-state
returns-else-below-eq0-clause-state c =
    let x = c.args.draws.now in
    c.below.ensures.state ∙ sym (after_none x (does_not_vary x c.below.result c.below.ensures.number c.if-below-eq0.false))
