use Rattle.cq_position.specs.Attacks.{is_occupied}
use Rattle.cq_square_sets.proofs.Marked.{marks_queen}
use Rattle.cq_position.proofs.attacks.queen_squares.Goals as goal

pub returns : goal.returns
returns c = marks_queen (is_occupied c.args.men.now) c.args.from _ _ c.rook_squares.ensures c.bishop_squares.ensures
