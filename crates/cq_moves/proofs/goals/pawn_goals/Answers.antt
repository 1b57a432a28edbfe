use Rattle.cq_square_sets.proofs.Marked.{marks_or}
use Rattle.cq_moves.proofs.goals.pawn_goals.Goals as goal

pub returns : goal.returns
returns c = marks_or _ _ _ _ (marks_or _ _ _ _ c.single_goals.ensures c.double_goals.ensures) c.captures-2.ensures
