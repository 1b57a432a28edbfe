-- A position as plain data: the men on the board, the side to move, the rights to castle, the en passant square and the number of the move.
use Rattle.std.specs.Prelude.{ℕ, ◌+◌, ◌-◌, List, [], ◌∷◌, ◌++◌, slice_range, replicate, Bool, true, false, ◌&&◌, ◌||◌, not, ◌==◌, nat_lt, Option, Some, None, count_by, slice_index_or}
use Rattle.std.specs.List.{list_any}
use Rattle.cq_geometry.specs.Squares.{rank_of}
use Rattle.cq_position.specs.declared.men.Man.{Man}
use Rattle.cq_position.specs.declared.men.Man.TheVariants.{K, Q, R, B, N, P, BlackK, BlackQ, BlackR, BlackB, BlackN, BlackP, Empty}
use Rattle.cq_position.specs.declared.men.Side.{Side}
use Rattle.cq_position.specs.declared.men.Side.TheVariants.{White, Black}
use Rattle.cq_position.specs.declared.position.Rights.{Rights}
use Rattle.cq_position.specs.Men.{same_man, is_of_side, king_of, rook_of}

-- the men of the squares a1, b1, .. h8; a square is its number in this order
pub record Board : Type 0 where
  pub men : List Man
  pub side : Side
  pub rights : Rights
  pub passant : Option ℕ
  pub number : ℕ

-- the man on a square
abbrev pub man_at : List Man → ℕ → Man
man_at men square = slice_index_or men square Empty

-- true if a square has the man
abbrev pub stands : List Man → ℕ → Man → Bool
stands men square man = same_man (man_at men square) man

-- the number of such men
abbrev pub count_of : Man → List Man → ℕ
count_of man men = count_by (λ m. same_man m man) men

-- the number of a side's men
abbrev pub count_of_side : Side → List Man → ℕ
count_of_side side men = count_by (is_of_side side) men

-- the right of a side to castle on the king's side (true) or on the queen's side
abbrev pub castling_right : Rights → Side → Bool → Bool
castling_right r White true = r.white_kingside
castling_right r White false = r.white_queenside
castling_right r Black true = r.black_kingside
castling_right r Black false = r.black_queenside

-- the home squares of the kings, e1 and e8, and of the rooks: h1 and a1, h8 and a8
abbrev pub king_home : Side → ℕ
king_home White = 4
king_home Black = 60

abbrev pub rook_home : Side → Bool → ℕ
rook_home White true = 7
rook_home White false = 0
rook_home Black true = 63
rook_home Black false = 56

-- true if king and rook are at home, as a right to castle requires
abbrev pub are_home : List Man → Side → Bool → Bool
are_home men side kingside = stands men (king_home side) (king_of side) && stands men (rook_home side kingside) (rook_of side)

-- True if the opponent's pawn can just have passed the square by a double step, with this side to move (FIDE Laws of Chess, article 3.7).
-- The square is empty and on the side's sixth rank. As the pawn's own side sees it, the pawn is on the square just in front of it. The
-- square just behind it, from which the pawn came, is empty.
abbrev pub was_passed : List Man → Side → ℕ → Bool
was_passed men White square =
    (rank_of square == 5) && stands men square Empty && stands men (square - 8) BlackP && stands men (square + 8) Empty
was_passed men Black square =
    (rank_of square == 2) && stands men square Empty && stands men (square + 8) P && stands men (square - 8) Empty

-- true if each side has one king
abbrev pub has_kings : List Man → Bool
has_kings men = (count_of K men == 1) && (count_of BlackK men == 1)

-- true of a pawn of either side
abbrev pub is_pawn : Man → Bool
is_pawn m = same_man m P || same_man m BlackP

-- true if a pawn of either side is on the first or the last rank
abbrev pub has_pawn_on_edge : List Man → Bool
has_pawn_on_edge men = list_any is_pawn (slice_range men 0 8) || list_any is_pawn (slice_range men 56 64)

-- true if one side has more than sixteen men
abbrev pub has_too_many_men : List Man → Bool
has_too_many_men men = nat_lt 16 (count_of_side White men) || nat_lt 16 (count_of_side Black men)

-- true if there is no en passant square, or the opponent's pawn can just have passed it
abbrev pub passant_stands : List Man → Side → Option ℕ → Bool
passant_stands men side None = true
passant_stands men side (Some square) = was_passed men side square

-- true if each right has its king and rook at home
abbrev pub rights_stand : List Man → Rights → Bool
rights_stand men r =
    (not r.white_kingside || are_home men White true) && (not r.white_queenside || are_home men White false)
    && (not r.black_kingside || are_home men Black true) && (not r.black_queenside || are_home men Black false)

-- the men of White's first rank and of Black's at the start of a game
abbrev pub white_pieces : List Man
white_pieces = R ∷ N ∷ B ∷ Q ∷ K ∷ B ∷ N ∷ R ∷ []

abbrev pub black_pieces : List Man
black_pieces = BlackR ∷ BlackN ∷ BlackB ∷ BlackQ ∷ BlackK ∷ BlackB ∷ BlackN ∷ BlackR ∷ []

-- the position at the start of a game (FIDE Laws of Chess, article 2.3)
abbrev pub start_board : Board
start_board = record {
  men = white_pieces ++ replicate 8 P ++ replicate 32 Empty ++ replicate 8 BlackP ++ black_pieces;
  side = White;
  rights = record { white_kingside = true; white_queenside = true; black_kingside = true; black_queenside = true };
  passant = None;
  number = 1;
}
