use Rattle.std.proofs.Common.{inl, inr}
use Rattle.cq_square_sets.proofs.Marked.{marks_or}
use Rattle.cq_moves.proofs.goals.goals_of.Goals as goal

pub returns-in-K : goal.returns-in-K
returns-in-K c =
    let all = marks_or _ _ _ _ (marks_or _ _ _ _ c.requires.attacked c.castling_goals.ensures) c.castling_goals-in-K.ensures in
    elim c.in-K.is [ inl e ↦ rw e all | inr e ↦ rw e all ]

pub returns-in-P : goal.returns-in-P
returns-in-P c = elim c.in-P.is [ inl e ↦ rw e c.pawn_goals.ensures | inr e ↦ rw e c.pawn_goals.ensures ]
