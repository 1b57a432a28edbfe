use Rattle.cq_square_sets.proofs.Marked.{marks_and, marks_same, marks_none}
use Rattle.std.proofs.Common.{false, sym, ◌&&◌, ◌∙◌}
use Rattle.cq_position.specs.Legal.{reaches, goes_as}
use Rattle.cq_position.specs.Board.{man_at}
use Rattle.cq_moves.specs.Internal.Mover.{is_free}
use Rattle.cq_moves.proofs.Targets.{own_reaches, other_reaches}
use Rattle.cq_moves.proofs.goals.goals_from.Goals as goal

pub returns-then-is_of_side : goal.returns-then-is_of_side
returns-then-is_of_side c =
    let p = c.args.position.now in
    let a = c.args.origin.now.from in
    let own = rw (c.requires.origin.man, c.side.ensures.side) at (sym c.is_of_side.ensures ∙ c.if-is_of_side.true) in
    let goes = rw c.requires.origin.man at c.goals_of.ensures in
    marks_same _ (λ b. goes_as (man_at p.men a) p a b && is_free p b) (reaches p a) (λ k h. own_reaches p a k own)
    (marks_and _ _ (goes_as (man_at p.men a) p a) (is_free p) goes c.requires.mover.free)

pub returns-else-is_of_side : goal.returns-else-is_of_side
returns-else-is_of_side c =
    let p = c.args.position.now in
    let a = c.args.origin.now.from in
    let other = rw (c.requires.origin.man, c.side.ensures.side) at (sym c.is_of_side.ensures ∙ c.if-is_of_side.false) in
    marks_same 0 (λ k. false) (reaches p a) (λ k h. sym (other_reaches p a k other)) marks_none
