-- The squares of the kings.
use Rattle.std.specs.Prelude.{◌≡◌, ℕ, ◌<◌, List, true}
use Rattle.cq_position.specs.declared.men.Man.{Man}
use Rattle.cq_position.specs.declared.men.Side.{Side}
use Rattle.cq_position.specs.Men.{king_of}
use Rattle.cq_position.specs.Board.{stands}

-- the king of a side is on this square and on no other
pub record IsKingSquare (men : List Man) (side : Side) (square : ℕ) : Type 0 where
  pub board : square < 64
  pub there : stands men square (king_of side) ≡ true
  pub only : (other : ℕ) → stands men other (king_of side) ≡ true → other ≡ square
