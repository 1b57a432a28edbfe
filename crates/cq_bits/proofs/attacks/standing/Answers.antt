use Rattle.cq_square_sets.proofs.Marked.{marks_same, marks_or}
use Rattle.cq_position.specs.Board.{man_at}
use Rattle.cq_bits.proofs.OnSquares.{nobody_there, straight_there, diagonal_there}
use Rattle.cq_bits.proofs.attacks.standing.Goals as goal

pub returns-in-Nothing : goal.returns-in-Nothing
returns-in-Nothing c = rw c.in-Nothing.is (marks_same _ _ _ (λ k low. nobody_there (man_at c.args.men.now k)) c.squares_of.ensures)

pub returns-in-Straight : goal.returns-in-Straight
returns-in-Straight c =
    rw c.in-Straight.is
    (marks_same _ _ _ (λ k low. straight_there (man_at c.args.men.now k)) (marks_or _ _ _ _ c.either_side.ensures c.either_side-in-Straight.ensures))

pub returns-in-Diagonal : goal.returns-in-Diagonal
returns-in-Diagonal c =
    rw c.in-Diagonal.is
    (marks_same _ _ _ (λ k low. diagonal_there (man_at c.args.men.now k)) (marks_or _ _ _ _ c.either_side-in-Diagonal.ensures c.either_side-in-Diagonal-2.ensures))
