use Rattle.cq_position.proofs.Attackers.{straight_found}
use Rattle.cq_position.proofs.attack_test.orthogonal_sliders.Goals as goal

pub returns : goal.returns
returns c = straight_found c.args.men.now c.args.by c.squares_of_piece.result c.squares_of_piece-2.result c.squares_of_piece.ensures c.squares_of_piece-2.ensures
