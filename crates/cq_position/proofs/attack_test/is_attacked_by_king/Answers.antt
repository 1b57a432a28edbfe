use Rattle.cq_position.proofs.attack_test.is_attacked_by_king.Goals as goal

pub returns : goal.returns
returns c = c.meets.ensures _ _ c.squares_of_piece.ensures c.king_attacks.ensures
