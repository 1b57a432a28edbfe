use Rattle.cq_square_sets.proofs.Marked.{marks_or}
use Rattle.cq_moves.proofs.reach.squares_ahead.Goals as goal

pub returns-in-White : goal.returns-in-White
returns-in-White c =
    rw c.in-White.is (marks_or _ _ _ _ (rw c.step.ensures.goal at c.set_of.ensures) (rw c.step-in-White.ensures.goal at c.set_of-in-White.ensures))

pub returns-in-Black : goal.returns-in-Black
returns-in-Black c =
    rw c.in-Black.is
    (marks_or _ _ _ _ (rw c.step-in-Black.ensures.goal at c.set_of-in-Black.ensures) (rw c.step-in-Black-2.ensures.goal at c.set_of-in-Black-2.ensures))
