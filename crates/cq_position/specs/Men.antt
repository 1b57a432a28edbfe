-- The men of both sides, and their letters.
use Rattle.std.specs.Prelude.{ℕ, List, [], ◌∷◌, codes, Bool, ◌==◌, Option, Some, None, find, option_map, nat_lt, nat_le, ◌&&◌}
use Rattle.std.specs.List.{zip}
use Rattle.std.specs.Cmp.{IsEquivalence}
use Rattle.std.specs.Cmp.Lexicographic.{pointwise}
use Rattle.std.proofs.lemmas.Cmp.{nat_eq_equiv, lists_equiv, on_equiv}
use Rattle.cq_position.specs.declared.men.Man.{Man}
use Rattle.cq_position.specs.declared.men.Man.TheVariants.{K, Q, R, B, N, P, BlackK, BlackQ, BlackR, BlackB, BlackN, BlackP, Empty}
use Rattle.cq_position.specs.declared.men.Piece.{Piece}
use Rattle.cq_position.specs.declared.men.Piece.TheVariants.{King, Queen, Rook, Bishop, Knight, Pawn}
use Rattle.cq_position.specs.declared.men.Promotion.{Promotion}
use Rattle.cq_position.specs.declared.men.Promotion.TheVariants.{None as NoPromotion, Q as ToQueen, R as ToRook, B as ToBishop, N as ToKnight}
use Rattle.cq_position.specs.declared.men.Side.{Side}
use Rattle.cq_position.specs.declared.men.Side.TheVariants.{White, Black}

-- the number of a man, its place in the order of the type
abbrev pub man_number : Man → ℕ
man_number K = 0
man_number Q = 1
man_number R = 2
man_number B = 3
man_number N = 4
man_number P = 5
man_number BlackK = 6
man_number BlackQ = 7
man_number BlackR = 8
man_number BlackB = 9
man_number BlackN = 10
man_number BlackP = 11
man_number Empty = 12

-- true if two squares have the same man, or are both empty
abbrev pub same_man : Man → Man → Bool
same_man m n = man_number m == man_number n

-- true if two lists have the same men, place by place
abbrev pub same_men : List Man → List Man → Bool
same_men = pointwise same_man

pub same_men_equiv : IsEquivalence same_men
same_men_equiv = lists_equiv (on_equiv man_number nat_eq_equiv)

-- the men with their letters, upper case for White (PGN standard 16.1.3.1)
abbrev pub letters : List (ℕ × Man)
letters =
    zip (codes "KQRBNPkqrbnp") (K ∷ Q ∷ R ∷ B ∷ N ∷ P ∷ BlackK ∷ BlackQ ∷ BlackR ∷ BlackB ∷ BlackN ∷ BlackP ∷ [])

-- the man of a letter, and the letter of a man; the empty square has none
abbrev pub man_with_letter : ℕ → Option Man
man_with_letter letter = option_map (λ entry. entry.1) (find (λ entry. entry.0 == letter) letters)

abbrev pub letter_of_man : Man → Option ℕ
letter_of_man man = option_map (λ entry. entry.0) (find (λ entry. same_man entry.1 man) letters)

-- true if a man is of a side
abbrev pub is_of_side : Side → Man → Bool
is_of_side White m = nat_lt (man_number m) 6
is_of_side Black m = nat_le 6 (man_number m) && nat_lt (man_number m) 12

-- the other side
abbrev pub opponent : Side → Side
opponent White = Black
opponent Black = White

-- the man of a side and a piece
abbrev pub man_of : Side → Piece → Man
man_of White King = K
man_of White Queen = Q
man_of White Rook = R
man_of White Bishop = B
man_of White Knight = N
man_of White Pawn = P
man_of Black King = BlackK
man_of Black Queen = BlackQ
man_of Black Rook = BlackR
man_of Black Bishop = BlackB
man_of Black Knight = BlackN
man_of Black Pawn = BlackP

-- the side and the piece of a man; none for the empty square
abbrev pub side_and_piece : Man → Option (Side × Piece)
side_and_piece K = Some (White, King)
side_and_piece Q = Some (White, Queen)
side_and_piece R = Some (White, Rook)
side_and_piece B = Some (White, Bishop)
side_and_piece N = Some (White, Knight)
side_and_piece P = Some (White, Pawn)
side_and_piece BlackK = Some (Black, King)
side_and_piece BlackQ = Some (Black, Queen)
side_and_piece BlackR = Some (Black, Rook)
side_and_piece BlackB = Some (Black, Bishop)
side_and_piece BlackN = Some (Black, Knight)
side_and_piece BlackP = Some (Black, Pawn)
side_and_piece Empty = None

-- the king, rook and pawn of a side
abbrev pub king_of : Side → Man
king_of side = man_of side King

abbrev pub rook_of : Side → Man
rook_of side = man_of side Rook

abbrev pub pawn_of : Side → Man
pawn_of side = man_of side Pawn

-- the number of a promotion in the order of the type: none, to a queen, a rook, a bishop and a knight
abbrev pub promotion_number : Promotion → ℕ
promotion_number NoPromotion = 0
promotion_number ToQueen = 1
promotion_number ToRook = 2
promotion_number ToBishop = 3
promotion_number ToKnight = 4
