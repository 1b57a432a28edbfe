-- Worked rows: texts, each with its position or its fault.
use Rattle.std.proofs.Common.{◌≡◌, [], ◌∷◌, ◌++◌, replicate, false, Some, None, Ok, Err, refl}
use Rattle.std.specs.Prelude.{codes}
use Rattle.cq_position.specs.declared.men.Man.TheVariants.{K, Q, R, B, N, P, BlackK, BlackQ, BlackR, BlackB, BlackN, BlackP, Empty}
use Rattle.cq_position.specs.declared.men.Side.TheVariants.{White, Black}
use Rattle.cq_position.specs.declared.fen.FenFault.TheVariants.{Fields, Placement, Side as BadSide, Castling, EnPassant, Number, Kings, PawnOnEdge, TooManyMen, OpponentInCheck}
use Rattle.cq_geometry.specs.Squares.{squares}
use Rattle.cq_geometry.specs.Lines.{between_squares}
use Rattle.cq_position.specs.Attacks.{attacks, is_attacked, in_check}
use Rattle.cq_position.specs.Board.{Board, start_board}
use Rattle.cq_position.specs.Fen.{fen_meaning, fields, is_placement, placed_men, position_or_fault}

-- the standard's examples: the position in which a game begins, and those after 1. e4, 1... c5 and 2. Nf3 (PGN standard 16.1.4)
start : fen_meaning (codes "rnbqkbnr/pppppppp/8/8/8/8/PPPPPPPP/RNBQKBNR w KQkq - 0 1") ≡ Ok start_board
unfolding fen_meaning fields is_placement placed_men position_or_fault in_check is_attacked attacks squares between_squares
start = refl

abbrev after_e4 : Board
after_e4 = record start_board {
  men = R ∷ N ∷ B ∷ Q ∷ K ∷ B ∷ N ∷ R ∷ [] ++ replicate 4 P ++ Empty ∷ P ∷ P ∷ P ∷ [] ++ replicate 12 Empty ++ P ∷ [] ++ replicate 19 Empty
      ++ replicate 8 BlackP ++ BlackR ∷ BlackN ∷ BlackB ∷ BlackQ ∷ BlackK ∷ BlackB ∷ BlackN ∷ BlackR ∷ [];
  side = Black;
  passant = Some 20;
}

king_pawn : fen_meaning (codes "rnbqkbnr/pppppppp/8/8/4P3/8/PPPP1PPP/RNBQKBNR b KQkq e3 0 1") ≡ Ok after_e4
unfolding fen_meaning fields is_placement placed_men position_or_fault in_check is_attacked attacks squares between_squares
king_pawn = refl

abbrev after_c5 : Board
after_c5 = record after_e4 {
  men = R ∷ N ∷ B ∷ Q ∷ K ∷ B ∷ N ∷ R ∷ [] ++ replicate 4 P ++ Empty ∷ P ∷ P ∷ P ∷ [] ++ replicate 12 Empty ++ P ∷ [] ++ replicate 5 Empty
      ++ BlackP ∷ [] ++ replicate 13 Empty ++ BlackP ∷ BlackP ∷ Empty ∷ [] ++ replicate 5 BlackP
      ++ BlackR ∷ BlackN ∷ BlackB ∷ BlackQ ∷ BlackK ∷ BlackB ∷ BlackN ∷ BlackR ∷ [];
  side = White;
  passant = Some 42;
  number = 2;
}

sicilian : fen_meaning (codes "rnbqkbnr/pp1ppppp/8/2p5/4P3/8/PPPP1PPP/RNBQKBNR w KQkq c6 0 2") ≡ Ok after_c5
unfolding fen_meaning fields is_placement placed_men position_or_fault in_check is_attacked attacks squares between_squares
sicilian = refl

abbrev after_nf3 : Board
after_nf3 = record after_c5 {
  men = R ∷ N ∷ B ∷ Q ∷ K ∷ B ∷ Empty ∷ R ∷ [] ++ replicate 4 P ++ Empty ∷ P ∷ P ∷ P ∷ [] ++ replicate 5 Empty ++ N ∷ [] ++ replicate 6 Empty
      ++ P ∷ [] ++ replicate 5 Empty ++ BlackP ∷ [] ++ replicate 13 Empty ++ BlackP ∷ BlackP ∷ Empty ∷ [] ++ replicate 5 BlackP
      ++ BlackR ∷ BlackN ∷ BlackB ∷ BlackQ ∷ BlackK ∷ BlackB ∷ BlackN ∷ BlackR ∷ [];
  side = Black;
  passant = None;
}

knight_out : fen_meaning (codes "rnbqkbnr/pp1ppppp/8/2p5/4P3/5N2/PPPP1PPP/RNBQKB1R b KQkq - 1 2") ≡ Ok after_nf3
unfolding fen_meaning fields is_placement placed_men position_or_fault in_check is_attacked attacks squares between_squares
knight_out = refl

-- spaces around the fields, four fields, and the number 0, which is read as 1
four_fields : fen_meaning (codes "  rnbqkbnr/pppppppp/8/8/8/8/PPPPPPPP/RNBQKBNR  w  KQkq - ") ≡ Ok start_board
unfolding fen_meaning fields is_placement placed_men position_or_fault in_check is_attacked attacks squares between_squares
four_fields = refl

zeroth_move : fen_meaning (codes "rnbqkbnr/pppppppp/8/8/8/8/PPPPPPPP/RNBQKBNR w qkQQK - 17 0") ≡ Ok start_board
unfolding fen_meaning fields is_placement placed_men position_or_fault in_check is_attacked attacks squares between_squares
zeroth_move = refl

-- two kings on a1 and c1: no right has its king and rook at home, and no pawn can have passed e6 or e3
abbrev two_kings : Board
two_kings = record {
  men = K ∷ Empty ∷ BlackK ∷ [] ++ replicate 61 Empty;
  side = White;
  rights = record { white_kingside = false; white_queenside = false; black_kingside = false; black_queenside = false };
  passant = None;
  number = 123456789;
}

rights_do_not_count : fen_meaning (codes "8/8/8/8/8/8/8/K1k5 w KQkq e6 000000000 123456789") ≡ Ok two_kings
unfolding fen_meaning fields is_placement placed_men position_or_fault in_check is_attacked attacks squares between_squares
rights_do_not_count = refl

wrong_rank : fen_meaning (codes "8/8/8/8/8/8/8/K1k5 w - e3 0 123456789") ≡ Ok two_kings
unfolding fen_meaning fields is_placement placed_men position_or_fault in_check is_attacked attacks squares between_squares
wrong_rank = refl

-- a text for each fault; each has the later faults too, but the king's fault takes the place of the fields
five_fields : fen_meaning (codes "9 x x x x") ≡ Err Fields
unfolding fen_meaning fields is_placement placed_men position_or_fault in_check is_attacked attacks squares between_squares
five_fields = refl

seven_fields : fen_meaning (codes "8/8/8/8/8/8/8/K1k5 w - - 0 1 1") ≡ Err Fields
unfolding fen_meaning fields is_placement placed_men position_or_fault in_check is_attacked attacks squares between_squares
seven_fields = refl

long_rank : fen_meaning (codes "8/8/8/8/8/8/7K1/8 x x e4 x x") ≡ Err Placement
unfolding fen_meaning fields is_placement placed_men position_or_fault in_check is_attacked attacks squares between_squares
long_rank = refl

seven_ranks : fen_meaning (codes "8/8/8/8/8/8/K1k5 w - - 0 1") ≡ Err Placement
unfolding fen_meaning fields is_placement placed_men position_or_fault in_check is_attacked attacks squares between_squares
seven_ranks = refl

no_side : fen_meaning (codes "8/8/8/8/8/8/8/P7 W x e4 x x") ≡ Err BadSide
unfolding fen_meaning fields is_placement placed_men position_or_fault in_check is_attacked attacks squares between_squares
no_side = refl

no_right : fen_meaning (codes "8/8/8/8/8/8/8/P7 w K- e4 x x") ≡ Err Castling
unfolding fen_meaning fields is_placement placed_men position_or_fault in_check is_attacked attacks squares between_squares
no_right = refl

no_passant : fen_meaning (codes "8/8/8/8/8/8/8/P7 w K e4 x x") ≡ Err EnPassant
unfolding fen_meaning fields is_placement placed_men position_or_fault in_check is_attacked attacks squares between_squares
no_passant = refl

no_number : fen_meaning (codes "8/8/8/8/8/8/8/P7 w K - 0 1234567890") ≡ Err Number
unfolding fen_meaning fields is_placement placed_men position_or_fault in_check is_attacked attacks squares between_squares
no_number = refl

no_kings : fen_meaning (codes "8/8/8/8/8/8/8/P7 w K - 0 1") ≡ Err Kings
unfolding fen_meaning fields is_placement placed_men position_or_fault in_check is_attacked attacks squares between_squares
no_kings = refl

pawn_on_edge : fen_meaning (codes "8/8/NNNNNNNN/NNNNNNNN/8/8/8/PKk5 w K - 0 1") ≡ Err PawnOnEdge
unfolding fen_meaning fields is_placement placed_men position_or_fault in_check is_attacked attacks squares between_squares
pawn_on_edge = refl

seventeen_men : fen_meaning (codes "8/8/NNNNNNNN/NNNNNNNN/8/8/8/1Kk5 w K - 0 1") ≡ Err TooManyMen
unfolding fen_meaning fields is_placement placed_men position_or_fault in_check is_attacked attacks squares between_squares
seventeen_men = refl

opponent_in_check : fen_meaning (codes "4k3/8/8/8/8/8/8/4RK2 w - - 0 1") ≡ Err OpponentInCheck
unfolding fen_meaning fields is_placement placed_men position_or_fault in_check is_attacked attacks squares between_squares
opponent_in_check = refl
