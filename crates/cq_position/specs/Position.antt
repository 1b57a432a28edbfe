-- The invariant of every position.
use Rattle.std.specs.Prelude.{◌≡◌, ◌<◌, length, true, false}
use Rattle.cq_position.specs.Men.{opponent}
use Rattle.cq_position.specs.Board.{Board, has_kings, has_pawn_on_edge, has_too_many_men, rights_stand, passant_stands}
use Rattle.cq_position.specs.Attacks.{in_check}

-- A position has one king of each side, no pawn on the first or the last rank, and at most sixteen men of a side. Each right to castle has
-- its king and rook at home. A pawn can just have passed the en passant square. The side not to move is not in check. The number is from 1
-- to 2^32 - 1.
pub record IsPosition (b : Board) : Type 0 where
  pub whole : length b.men ≡ 64
  pub kings : has_kings b.men ≡ true
  pub no_pawn_on_edge : has_pawn_on_edge b.men ≡ false
  pub few_enough : has_too_many_men b.men ≡ false
  pub rights : rights_stand b.men b.rights ≡ true
  pub passed : passant_stands b.men b.side b.passant ≡ true
  pub opponent_not_in_check : in_check b.men (opponent b.side) ≡ false
  pub numbered : 0 < b.number
  pub fits : b.number < 4294967296
