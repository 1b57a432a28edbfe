-- Squares ahead of pawns, and candidates for the origin of a move to a goal.
use Rattle.std.specs.Prelude.{ℕ, Bool, Option, Some, None, ◌||◌, ◌==◌, pos, negsuc, if◌then◌else◌}
use Rattle.cq_geometry.specs.Squares.{rank_of}
use Rattle.cq_geometry.specs.Steps.{stepped}
use Rattle.cq_position.specs.declared.men.Piece.{Piece}
use Rattle.cq_position.specs.declared.men.Piece.TheVariants.{King, Queen, Rook, Bishop, Knight, Pawn}
use Rattle.cq_position.specs.Men.{man_of, opponent}
use Rattle.cq_position.specs.declared.men.Side.{Side}
use Rattle.cq_position.specs.declared.men.Side.TheVariants.{White, Black}
use Rattle.cq_position.specs.Board.{king_home}
use Rattle.cq_position.specs.Attacks.{attacks_as, is_goal}

-- true of the squares one and two ranks forward
abbrev pub is_ahead : Side → ℕ → ℕ → Bool
is_ahead White a b = is_goal (stepped (pos 0) (pos 1) a) b || is_goal (stepped (pos 0) (pos 2) a) b
is_ahead Black a b = is_goal (stepped (pos 0) (negsuc 0) a) b || is_goal (stepped (pos 0) (negsuc 1) a) b

-- the square two ranks ahead of a pawn on its home rank
abbrev pub double_goal : Side → ℕ → Option ℕ
double_goal White a = if rank_of a == 1 then stepped (pos 0) (pos 2) a else None
double_goal Black a = if rank_of a == 6 then stepped (pos 0) (negsuc 1) a else None

-- True of a candidate for the origin of a move, seen from the goal. It is a square that such a piece would attack from there. For a king it
-- can also be its home, from which it castles. For a pawn it is a square that an opponent's pawn would attack, or a square ahead of one.
abbrev pub may_come : Side → Piece → (ℕ → Bool) → ℕ → ℕ → Bool
may_come side King occupied b a = attacks_as (man_of side King) occupied b a || is_goal (Some (king_home side)) a
may_come side Pawn occupied b a = attacks_as (man_of (opponent side) Pawn) occupied b a || is_ahead (opponent side) b a
may_come side Queen occupied b a = attacks_as (man_of side Queen) occupied b a
may_come side Rook occupied b a = attacks_as (man_of side Rook) occupied b a
may_come side Bishop occupied b a = attacks_as (man_of side Bishop) occupied b a
may_come side Knight occupied b a = attacks_as (man_of side Knight) occupied b a
