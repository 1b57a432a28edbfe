use Rattle.cq_position.proofs.Attackers.{slanted_found}
use Rattle.cq_position.proofs.attack_test.diagonal_sliders.Goals as goal

pub returns : goal.returns
returns c = slanted_found c.args.men.now c.args.by c.squares_of_piece.result c.squares_of_piece-2.result c.squares_of_piece.ensures c.squares_of_piece-2.ensures
