-- Attackers of a square, searched for outward from it.
use Rattle.std.specs.Prelude.{◌&&◌, ℕ, List, [], ◌∷◌, Bool, true, false, if◌then◌else◌, Option, Some, None}
use Rattle.std.specs.List.{list_any}
use Rattle.cq_geometry.specs.declared.compass.Compass.{Compass}
use Rattle.cq_geometry.specs.Squares.{squares}
use Rattle.cq_geometry.specs.Steps.{stepped, ray_from}
use Rattle.cq_geometry.specs.Directions.{files_of, ranks_of}
use Rattle.cq_position.specs.declared.men.Man.{Man}
use Rattle.cq_position.specs.declared.men.Man.TheVariants.{Q, R, B, BlackQ, BlackR, BlackB, Empty}
use Rattle.cq_position.specs.declared.men.Piece.TheVariants.{Knight}
use Rattle.cq_position.specs.declared.men.Side.{Side}
use Rattle.cq_position.specs.declared.men.Side.TheVariants.{White, Black}
use Rattle.cq_position.specs.Men.{man_of}
use Rattle.cq_position.specs.Board.{man_at, stands}
use Rattle.cq_position.specs.Attacks.{is_occupied}
use Rattle.std.specs.Prelude.{pos, negsuc}

-- the first man on these squares, or the empty square if there is none
abbrev pub first_man : List Man → List ℕ → Man
first_man men [] = Empty
first_man men (square ∷ rest) = if is_occupied men square then man_at men square else first_man men rest

-- true of a side's rooks and queens, which attack along files and ranks
abbrev pub is_orthogonal_slider : Side → Man → Bool
is_orthogonal_slider White Q = true
is_orthogonal_slider White R = true
is_orthogonal_slider Black BlackQ = true
is_orthogonal_slider Black BlackR = true
is_orthogonal_slider _ _ = false

-- true of a side's bishops and queens, which attack along diagonals
abbrev pub is_diagonal_slider : Side → Man → Bool
is_diagonal_slider White Q = true
is_diagonal_slider White B = true
is_diagonal_slider Black BlackQ = true
is_diagonal_slider Black BlackB = true
is_diagonal_slider _ _ = false

-- the knight of a side
abbrev pub knight_of : Side → Man
knight_of side = man_of side Knight

-- true if along one of the directions the first man from a square is of this kind
abbrev pub first_is : (Man → Bool) → List Man → List Compass → ℕ → Bool
first_is kind men directions square =
    list_any (λ c. kind (first_man men (ray_from (files_of c) (ranks_of c) square))) directions

-- true if a goal on the board has the man
abbrev pub holds : List Man → Man → Option ℕ → Bool
holds men man None = false
holds men man (Some square) = stands men square man

-- true if some square passes both tests
abbrev pub some_man : (ℕ → Bool) → (ℕ → Bool) → Bool
some_man t u = list_any (λ a. t a && u a) squares

-- the squares from which a pawn of the side attacks the square: diagonally, one rank nearer to that side
abbrev pub pawn_origins : Side → ℕ → List (Option ℕ)
pawn_origins White square = stepped (negsuc 0) (negsuc 0) square ∷ stepped (pos 1) (negsuc 0) square ∷ []
pawn_origins Black square = stepped (negsuc 0) (pos 1) square ∷ stepped (pos 1) (pos 1) square ∷ []
