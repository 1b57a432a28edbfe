use Rattle.cq_square_sets.proofs.Marked.{marks_and}
use Rattle.cq_moves.proofs.Targets.{empty_marks}
use Rattle.cq_moves.proofs.goals.single_goals.Goals as goal

pub returns : goal.returns
returns c =
    let ahead = rw c.side.ensures.side at c.square_ahead.ensures in
    let empty = rw c.men.ensures.men at c.squares_of.ensures in
    marks_and _ _ _ _ ahead (empty_marks c.args.position.now _ empty)
