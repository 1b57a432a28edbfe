-- The squares that a man attacks, whether occupied or not (FIDE Laws of Chess, articles 3.1 to 3.8).
use Rattle.std.specs.Prelude.{ℕ, ◌+◌, List, Bool, false, ◌&&◌, ◌||◌, not, ◌==◌, Option, Some, None}
use Rattle.std.specs.List.{list_any}
use Rattle.cq_geometry.specs.Squares.{rank_of, squares}
use Rattle.cq_geometry.specs.Steps.{files_apart, is_king_step, is_knight_step}
use Rattle.cq_geometry.specs.Lines.{is_orthogonal, is_diagonal, is_open}
pub use Rattle.cq_square_sets.specs.Bitboards.{is_goal}
use Rattle.cq_position.specs.declared.men.Man.{Man}
use Rattle.cq_position.specs.declared.men.Man.TheVariants.{Empty}
use Rattle.cq_position.specs.declared.men.Piece.{Piece}
use Rattle.cq_position.specs.declared.men.Piece.TheVariants.{King, Queen, Rook, Bishop, Knight, Pawn}
use Rattle.cq_position.specs.declared.men.Side.{Side}
use Rattle.cq_position.specs.declared.men.Side.TheVariants.{White, Black}
use Rattle.cq_position.specs.Men.{is_of_side, side_and_piece, opponent, king_of}
use Rattle.cq_position.specs.Board.{man_at, stands}

-- true if a man is on the square
abbrev pub is_occupied : List Man → ℕ → Bool
is_occupied men square = not (stands men square Empty)

-- true of the two squares diagonally in front of a pawn, which it attacks (article 3.7.3)
abbrev pub is_pawn_attack : Side → ℕ → ℕ → Bool
is_pawn_attack White a b = (rank_of b == rank_of a + 1) && (files_apart a b == 1)
is_pawn_attack Black a b = (rank_of a == rank_of b + 1) && (files_apart a b == 1)

-- True if a piece of a side on a attacks b. Bishop, rook and queen attack along lines (articles 3.2 to 3.4), up to and including the first
-- occupied square (3.5). The knight (3.6), the pawn (3.7) and the king (3.8.1) attack the squares of one step.
abbrev pub piece_attacks : Side → Piece → (ℕ → Bool) → ℕ → ℕ → Bool
piece_attacks side Bishop occupied a b = is_diagonal a b && is_open occupied a b
piece_attacks side Rook occupied a b = is_orthogonal a b && is_open occupied a b
piece_attacks side Queen occupied a b = (is_orthogonal a b || is_diagonal a b) && is_open occupied a b
piece_attacks side Knight occupied a b = is_knight_step a b
piece_attacks side Pawn occupied a b = is_pawn_attack side a b
piece_attacks side King occupied a b = is_king_step a b

abbrev pub attacks_if_any : Option (Side × Piece) → (ℕ → Bool) → ℕ → ℕ → Bool
attacks_if_any None occupied a b = false
attacks_if_any (Some (side, piece)) occupied a b = piece_attacks side piece occupied a b

-- true if a man on a attacks b; an empty square attacks none
abbrev pub attacks_as : Man → (ℕ → Bool) → ℕ → ℕ → Bool
attacks_as man occupied a b = attacks_if_any (side_and_piece man) occupied a b

-- true if the man on a attacks b
unfoldable pub attacks : List Man → ℕ → ℕ → Bool
attacks men a b = attacks_as (man_at men a) (is_occupied men) a b

-- true if the second square has a man of the side that attacks the first
abbrev pub attacker : List Man → Side → ℕ → ℕ → Bool
attacker men side square from = is_of_side side (man_at men from) && attacks men from square

-- true if a man of the side attacks the square, even if it may not move there (article 3.9.1)
unfoldable pub is_attacked : List Man → Side → ℕ → Bool
is_attacked men side square = list_any (attacker men side square) squares

-- true if the side's king is on the square and a man of the opponent attacks it
abbrev pub attacked_king : List Man → Side → ℕ → Bool
attacked_king men side square = stands men square (king_of side) && is_attacked men (opponent side) square

-- true if the side's king is attacked (article 3.9.1)
unfoldable pub in_check : List Man → Side → Bool
in_check men side = list_any (attacked_king men side) squares
