use Rattle.std.proofs.Common.{◌==◌, ◌++◌, ◌∙◌, ap, length}
use Rattle.cq_position.specs.Continuations.{nodes_from}
use Rattle.cq_maker.specs.Line.{variation_drawn, after_variation}
use Rattle.cq_maker.specs.Internal.DrawnMoves.{nodes_of_rows}
use Rattle.cq_maker.proofs.Drawn.{goes_on, is_done}
use Rattle.cq_maker.proofs.Plies.{IsWhole, drawn_more, whole_full, whole_over}
use Rattle.cq_maker.proofs.line.draw_line.Goals.{else-loop-parent-test, then-loop-parent-test+then-is_empty}
use Rattle.cq_maker.proofs.line.draw_line.Goals as goal

pub loop-parent-preserved : goal.loop-parent-preserved
loop-parent-preserved c =
    let l = c.loop-parent in
    drawn_more c.args.draws.now c.args.most l.parent l.last l.main.items c.push.new.self.items l.beside.items c.draw_variation.new.beside.items l.draws c.draw_variation.new.draws
    c.draw_row-row.result c.loop-parent-test.true
    (goes_on l.last c.is_empty.result (c.is_empty.ensures ∙ ap (λ ms. length ms == 0) c.legal_moves-moves.ensures.moves) c.if-is_empty.false)
    c.in_ok-push.ensures.items c.draw_row-row.ensures.row
    (c.in_ok-draw_variation.ensures.rows ∙ ap (λ x. nodes_of_rows l.beside.items ++ nodes_from l.parent 0 (variation_drawn l.last x)) c.draw_row-row.ensures.state)
    (c.in_ok-draw_variation.ensures.state ∙ ap after_variation c.draw_row-row.ensures.state) l.invariant

pub returns-clause-nodes : goal.returns-clause-nodes
returns-clause-nodes c =
    let l = c.loop-parent in
    let whole : IsWhole c.args.draws.now c.args.most l.last l.main.items l.beside.items l.draws = elim c.loop-parent-test.branch [
      | else-loop-parent-test w ↦ whole_full c.args.draws.now c.args.most l.parent l.last l.main.items l.beside.items l.draws w.loop-parent-test.false l.invariant
      | then-loop-parent-test+then-is_empty w ↦
          whole_over c.args.draws.now c.args.most l.parent l.last l.main.items l.beside.items l.draws
          (is_done l.last w.is_empty.result (w.is_empty.ensures ∙ ap (λ ms. length ms == 0) w.legal_moves-moves.ensures.moves) w.if-is_empty.true) l.invariant
    ] in
    ap (λ rows. nodes_of_rows l.main.items ++ nodes_of_rows rows) c.reverse.ensures.items ∙ whole.nodes

pub returns-clause-last : goal.returns-clause-last
returns-clause-last c =
    let l = c.loop-parent in
    let whole : IsWhole c.args.draws.now c.args.most l.last l.main.items l.beside.items l.draws = elim c.loop-parent-test.branch [
      | else-loop-parent-test w ↦ whole_full c.args.draws.now c.args.most l.parent l.last l.main.items l.beside.items l.draws w.loop-parent-test.false l.invariant
      | then-loop-parent-test+then-is_empty w ↦
          whole_over c.args.draws.now c.args.most l.parent l.last l.main.items l.beside.items l.draws
          (is_done l.last w.is_empty.result (w.is_empty.ensures ∙ ap (λ ms. length ms == 0) w.legal_moves-moves.ensures.moves) w.if-is_empty.true) l.invariant
    ] in
    whole.last_is

pub returns-clause-state : goal.returns-clause-state
returns-clause-state c =
    let l = c.loop-parent in
    let whole : IsWhole c.args.draws.now c.args.most l.last l.main.items l.beside.items l.draws = elim c.loop-parent-test.branch [
      | else-loop-parent-test w ↦ whole_full c.args.draws.now c.args.most l.parent l.last l.main.items l.beside.items l.draws w.loop-parent-test.false l.invariant
      | then-loop-parent-test+then-is_empty w ↦
          whole_over c.args.draws.now c.args.most l.parent l.last l.main.items l.beside.items l.draws
          (is_done l.last w.is_empty.result (w.is_empty.ensures ∙ ap (λ ms. length ms == 0) w.legal_moves-moves.ensures.moves) w.if-is_empty.true) l.invariant
    ] in
    whole.state_is
