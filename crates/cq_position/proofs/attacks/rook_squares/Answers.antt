use Rattle.cq_position.specs.Attacks.{is_occupied}
use Rattle.cq_position.proofs.Attackers.{empty_seen}
use Rattle.cq_position.proofs.attacks.rook_squares.Goals as goal

pub returns : goal.returns
returns c = c.rook_attacks.ensures (is_occupied c.args.men.now) (empty_seen c.args.men.now c.squares_of.result c.squares_of.ensures)
