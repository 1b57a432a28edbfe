-- The legal moves of a position, and the position after each (FIDE Laws of Chess, articles 3.1 to 3.10).
use Rattle.std.specs.Prelude.{◌≡◌, ◌⊎◌, ℕ, ◌+◌, ◌-◌, ◌/◌, List, [], ◌∷◌, Bool, true, false, ◌&&◌, ◌||◌, not, ◌==◌, nat_lt, min, Option, Some, None, slice_set, if◌then◌else◌}
use Rattle.std.specs.List.{list_all}
use Rattle.cq_geometry.specs.Squares.{file_of, rank_of, square_of}
use Rattle.cq_geometry.specs.Steps.{files_apart, ranks_apart}
use Rattle.cq_geometry.specs.Lines.{is_open}
use Rattle.cq_position.specs.declared.men.Man.{Man}
use Rattle.cq_position.specs.declared.men.Man.TheVariants.{K, P, BlackK, BlackP, Empty}
use Rattle.cq_position.specs.declared.men.Piece.TheVariants.{Queen, Rook, Bishop, Knight}
use Rattle.cq_position.specs.declared.men.Promotion.{Promotion}
use Rattle.cq_position.specs.declared.men.Promotion.TheVariants.{None as NoPromotion, Q as ToQueen, R as ToRook, B as ToBishop, N as ToKnight}
use Rattle.cq_position.specs.declared.men.Side.{Side}
use Rattle.cq_position.specs.declared.men.Side.TheVariants.{White, Black}
use Rattle.cq_position.specs.declared.moves.Move.{Move}
use Rattle.cq_position.specs.declared.position.Rights.{Rights}
use Rattle.cq_position.specs.Men.{is_of_side, man_of, opponent, king_of, rook_of}
use Rattle.cq_position.specs.Board.{Board, man_at, stands, castling_right, king_home, rook_home, is_pawn}
use Rattle.cq_position.specs.Attacks.{is_goal, is_occupied, is_pawn_attack, attacks, is_attacked, in_check}
use Rattle.cq_position.specs.Moves.{null_move}

-- true of no promotion
abbrev pub is_none : Promotion → Bool
is_none NoPromotion = true
is_none ToQueen = false
is_none ToRook = false
is_none ToBishop = false
is_none ToKnight = false

-- the rank farthest from a side's pawns at the start, counted from 0
abbrev pub last_rank : Side → ℕ
last_rank White = 7
last_rank Black = 0

-- true if a pawn promotes exactly on the last rank (article 3.7)
abbrev pub pawn_promotion_is_right : Side → Move → Bool
pawn_promotion_is_right side m = if rank_of m.to == last_rank side then not (is_none m.promotion) else is_none m.promotion

-- true of one rank forward on the same file (article 3.7.1)
abbrev pub is_single_step : Side → ℕ → ℕ → Bool
is_single_step White a b = b == a + 8
is_single_step Black a b = a == b + 8

-- true of two ranks forward from the pawns' home rank (article 3.7.2)
abbrev pub is_double_step : Side → ℕ → ℕ → Bool
is_double_step White a b = (rank_of a == 1) && (b == a + 16)
is_double_step Black a b = (rank_of a == 6) && (a == b + 16)

-- the square halfway between two
abbrev pub middle : ℕ → ℕ → ℕ
middle a b = (a + b) / 2

-- A pawn steps to the next square if it is empty (article 3.7.1), or two squares if both are (3.7.2). It captures on the squares that it
-- attacks (3.7.3). On the en passant square it captures the pawn that has just passed it.
abbrev pub pawn_moves : Board → ℕ → ℕ → Bool
pawn_moves p a b =
    (is_single_step p.side a b && not (is_occupied p.men b))
    || (is_double_step p.side a b && not (is_occupied p.men (middle a b)) && not (is_occupied p.men b))
    || (is_pawn_attack p.side a b && (is_of_side (opponent p.side) (man_at p.men b) || is_goal p.passant b))

-- the square to which the king castles, and the one that it crosses, to which the rook goes (article 3.8.2)
abbrev pub castling_goal : Side → Bool → ℕ
castling_goal side true = king_home side + 2
castling_goal side false = king_home side - 2

abbrev pub castling_crossed : Side → Bool → ℕ
castling_crossed side true = king_home side + 1
castling_crossed side false = king_home side - 1

-- Castling requires the right; in every position a right implies king and rook at home (article 3.8.2.1). No man is between king and rook.
-- The opponent attacks none of the king's squares: its own, the one that it crosses and its goal (3.8.2.2).
abbrev pub castles : Board → ℕ → ℕ → Bool → Bool
castles p a b kingside =
    (a == king_home p.side) && (b == castling_goal p.side kingside) && castling_right p.rights p.side kingside
    && is_open (is_occupied p.men) (king_home p.side) (rook_home p.side kingside)
    && list_all (λ square. not (is_attacked p.men (opponent p.side) square)) (a ∷ castling_crossed p.side kingside ∷ b ∷ [])

-- The goals of each man, whatever it becomes there. A pawn moves by its own rules. All others go to the squares that they attack (articles
-- 3.2 to 3.6 and 3.8.1), and the king also castles.
abbrev pub goes_as : Man → Board → ℕ → ℕ → Bool
goes_as K p a b = attacks p.men a b || castles p a b true || castles p a b false
goes_as BlackK p a b = attacks p.men a b || castles p a b true || castles p a b false
goes_as P p a b = pawn_moves p a b
goes_as BlackP p a b = pawn_moves p a b
goes_as Empty p a b = false
goes_as _ p a b = attacks p.men a b

-- true if a man of the side to move can go to a square with none of its own men (article 3.1) and no king (1.4.1)
unfoldable pub reaches : Board → ℕ → ℕ → Bool
reaches p a b =
    is_of_side p.side (man_at p.men a) && not (is_of_side p.side (man_at p.men b))
    && not (stands p.men b (king_of (opponent p.side))) && goes_as (man_at p.men a) p a b

-- true if a pawn promotes exactly on the last rank (article 3.7.3.3), and no other man promotes
abbrev pub promotion_is_right : Board → Move → Bool
promotion_is_right p m = if is_pawn (man_at p.men m.from) then pawn_promotion_is_right p.side m else is_none m.promotion

-- A pseudo-legal move: a man of the side to move goes to a square of the board, and promotes as it must. An attack on its own king
-- afterwards is not considered here.
unfoldable pub is_pseudo_legal : Board → Move → Bool
is_pseudo_legal p m = not m.null && nat_lt m.to 64 && reaches p m.from m.to && promotion_is_right p m

-- the man on the goal after the move
abbrev pub promoted : Side → Promotion → Man → Man
promoted side NoPromotion man = man
promoted side ToQueen man = man_of side Queen
promoted side ToRook man = man_of side Rook
promoted side ToBishop man = man_of side Bishop
promoted side ToKnight man = man_of side Knight

-- the men after a man went from its square to the goal
abbrev pub men_moved : Board → Move → List Man
men_moved p m = slice_set (slice_set p.men m.from Empty) m.to (promoted p.side m.promotion (man_at p.men m.from))

-- true of a king's move by two files, which is castling (article 3.8.2), and of a pawn's move to the en passant square (3.7)
abbrev pub is_castling : Board → Move → Bool
is_castling p m = stands p.men m.from (king_of p.side) && (files_apart m.from m.to == 2)

abbrev pub is_en_passant_capture : Board → Move → Bool
is_en_passant_capture p m = is_pawn (man_at p.men m.from) && (files_apart m.from m.to == 1) && is_goal p.passant m.to

-- In castling the rook goes to the other side of the king. A capture en passant removes a pawn beside the origin of the capturing one.
abbrev pub rook_moved : List Man → Side → Bool → List Man
rook_moved men side kingside =
    slice_set (slice_set men (rook_home side kingside) Empty) (castling_crossed side kingside) (rook_of side)

abbrev pub men_after : Board → Move → List Man
men_after p m =
    if is_castling p m then rook_moved (men_moved p m) p.side (nat_lt m.from m.to)
    else (if is_en_passant_capture p m then slice_set (men_moved p m) (square_of (file_of m.to) (rank_of m.from)) Empty
    else men_moved p m)

-- The rights to castle after a move (article 3.8.2.1). A king's move ends both rights of its side. A move from or to a rook's home square
-- ends the right with that rook.
abbrev pub keeps_right : Board → Move → Side → Bool → Bool
keeps_right p m side kingside =
    castling_right p.rights side kingside && not (stands p.men m.from (king_of side))
    && not (m.from == rook_home side kingside) && not (m.to == rook_home side kingside)

abbrev pub rights_after : Board → Move → Rights
rights_after p m = record {
  white_kingside = keeps_right p m White true;
  white_queenside = keeps_right p m White false;
  black_kingside = keeps_right p m Black true;
  black_queenside = keeps_right p m Black false;
}

-- the en passant square after a move: the square that a pawn's double step passed
abbrev pub passant_after : Board → Move → Option ℕ
passant_after p m =
    if is_pawn (man_at p.men m.from) && (ranks_apart m.from m.to == 2) then Some (middle m.from m.to) else None

-- the number after a move: it rises after Black's move, up to its greatest value
abbrev pub next_move_number : Side → ℕ → ℕ
next_move_number White number = number
next_move_number Black number = min (number + 1) 4294967295

abbrev pub number_after : Board → ℕ
number_after p = next_move_number p.side p.number

-- the position after a move
unfoldable pub after : Board → Move → Board
after p m = record {
  men = men_after p m;
  side = opponent p.side;
  rights = rights_after p m;
  passant = passant_after p m;
  number = number_after p;
}

-- A legal move leads to a position (article 3.10.1). The man can move so, and its own king isn't attacked afterwards (3.9.2).
pub record Legal (p : Board) (m : Move) (q : Board) : Type 0 where
  pub moves : is_pseudo_legal p m ≡ true
  pub leads : q ≡ after p m
  pub safe : in_check q.men p.side ≡ false

-- the position after the null move, which the Laws lack: men and rights are the same, and the en passant square is gone
unfoldable pub after_pass : Board → Board
after_pass p = record p { side = opponent p.side; passant = None; number = number_after p }

-- a side that is not in check can pass by the null move
pub record Passes (p : Board) (m : Move) (q : Board) : Type 0 where
  pub null : m ≡ null_move
  pub leads : q ≡ after_pass p
  pub safe : in_check p.men p.side ≡ false

-- a move leads to a position: it is legal, or the null move of a side that can pass
abbrev pub Leads : Board → Move → Board → Type 0
Leads p m q = Legal p m q ⊎ Passes p m q
