use Rattle.std.proofs.Common.{◌≡◌, ◌∙◌, ap, get_or}
use Rattle.cq_maker.specs.Draws.{drawn}
use Rattle.cq_maker.specs.Line.{move_drawn}
use Rattle.cq_maker.proofs.Drawn.{is_drawn, leads_on, ply_is}
use Rattle.cq_maker.proofs.line.draw_row.Goals as goal

pub play-requires : goal.play-requires
play-requires c =
    let items = c.args.moves.now.items in
    let m = c.index-deref-below.result in
    let is : m ≡ move_drawn c.args.position.now c.args.draws.now =
    is_drawn c.args.position.now c.args.draws.now items c.below.result m c.requires.some c.requires.moves (c.below.ensures.number ∙ ap (drawn c.args.draws.now) c.len.ensures.value)
    (c.index-deref-below.is ∙ ap (λ l. get_or l c.below.result m) c.deref.ensures.0) in
    leads_on c.args.position.now c.args.draws.now items m c.requires.some c.requires.moves is

pub returns-clause-row : goal.returns-clause-row
returns-clause-row c =
    let items = c.args.moves.now.items in
    let m = c.index-deref-below.result in
    let is : m ≡ move_drawn c.args.position.now c.args.draws.now =
    is_drawn c.args.position.now c.args.draws.now items c.below.result m c.requires.some c.requires.moves (c.below.ensures.number ∙ ap (drawn c.args.draws.now) c.len.ensures.value)
    (c.index-deref-below.is ∙ ap (λ l. get_or l c.below.result m) c.deref.ensures.0) in
    ply_is c.args.parent c.args.position.now c.args.draws.now m c.play.result is c.play.ensures.legal.leads
