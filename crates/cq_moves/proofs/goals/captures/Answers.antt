use Rattle.cq_square_sets.proofs.Marked.{marks_and, marks_or}
use Rattle.cq_position.specs.Attacks.{is_occupied}
use Rattle.cq_moves.proofs.Targets.{pawn_marks}
use Rattle.cq_moves.proofs.goals.captures.Goals as goal

pub returns : goal.returns
returns c =
    let p = c.args.position.now in
    let hits = rw (c.man_of.ensures, c.side-side.ensures.side, c.men-men.ensures.men) at c.squares_attacked.ensures in
    let men = rw (c.opponent.ensures, c.side-side.ensures.side, c.men-men.ensures.men) at c.squares_of_side.ensures in
    let passed = rw c.passant.ensures.square at c.set_of.ensures in
    marks_and _ _ _ _ (pawn_marks p.side (is_occupied p.men) c.args.from _ hits) (marks_or _ _ _ _ men passed)
