use Rattle.cq_position.proofs.attack_test.is_attacked_by_knight.Goals as goal

pub returns : goal.returns
returns c = c.meets.ensures _ _ c.squares_of_piece.ensures c.knight_attacks.ensures
