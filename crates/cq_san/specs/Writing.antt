-- The text of a move in Standard Algebraic Notation (PGN standard 8.2.3).
use Rattle.std.specs.Prelude.{ℕ, ◌+◌, ◌<◌, IfSome, ◌==◌, Bool, true, false, ◌&&◌, ◌||◌, not, List, [], ◌∷◌, ◌++◌, codes, Option, Some, None, option_map, unwrap_or, if◌then◌else◌}
use Rattle.std.specs.List.{filter, list_all}
use Rattle.cq_geometry.specs.Squares.{file_of, rank_of}
use Rattle.cq_position.specs.declared.men.Man.{Man}
use Rattle.cq_position.specs.declared.men.Promotion.{Promotion}
use Rattle.cq_position.specs.declared.men.Promotion.TheVariants.{None as NoPromotion, Q as ToQueen, R as ToRook, B as ToBishop, N as ToKnight}
use Rattle.cq_position.specs.declared.moves.Move.{Move}
use Rattle.cq_position.specs.Men.{same_man, side_and_piece}
use Rattle.cq_position.specs.Board.{Board, man_at, is_pawn}
use Rattle.cq_position.specs.Attacks.{in_check, is_occupied}
use Rattle.cq_position.specs.Legal.{is_castling, is_en_passant_capture, after}
use Rattle.cq_moves.specs.LegalMoves.{legal_list}
use Rattle.cq_position.specs.declared.men.Piece.{Piece}
use Rattle.cq_position.specs.declared.men.Piece.TheVariants.{King, Queen, Rook, Bishop, Knight, Pawn}
use Rattle.cq_san.specs.declared.parts.PieceMove.{PieceMove}
use Rattle.cq_san.specs.declared.parts.Parts.{Parts}
use Rattle.cq_san.specs.declared.parts.Parts.TheVariants.{Castling, Null, Moved}
use Rattle.cq_san.specs.Fits.{goes_right}

-- the piece of a man; the empty square, which no move leaves, counts as a pawn
abbrev pub piece_of_man : Man → Piece
piece_of_man man = unwrap_or (option_map (λ known. known.1) (side_and_piece man)) Pawn

-- true if the move captures a man, en passant included
abbrev pub is_capture : Board → Move → Bool
is_capture p m = is_occupied p.men m.to || is_en_passant_capture p m

-- true of a move of another man of the same kind to the same square
abbrev pub is_rival : Board → Move → Move → Bool
is_rival p m n = same_man (man_at p.men n.from) (man_at p.men m.from) && (n.to == m.to) && not (n.from == m.from)

-- the legal moves of other men of the same kind to the same square
abbrev pub rivals_of : Board → Move → List Move
rivals_of p m = filter (is_rival p m) (legal_list p)

-- true if the file, or the rank, of the moving man differs from those of all others
abbrev pub tells : (ℕ → ℕ) → List Move → Move → Bool
tells part others m = list_all (λ n. not (part m.from == part n.from)) others

-- The origin's coordinates if there are others. The file is given if it differs from those of all others. Otherwise the rank is given if it
-- differs from theirs, or else both are given.
abbrev pub file_among : List Move → Move → Option ℕ
file_among [] m = None
file_among (n ∷ ns) m =
    if tells file_of (n ∷ ns) m then Some (file_of m.from) else (if tells rank_of (n ∷ ns) m then None else Some (file_of m.from))

abbrev pub rank_among : List Move → Move → Option ℕ
rank_among [] m = None
rank_among (n ∷ ns) m = if tells file_of (n ∷ ns) m then None else Some (rank_of m.from)

-- a pawn's file is given if it captures, and its rank never
abbrev pub given_file : Board → Move → Option ℕ
given_file p m =
    if is_pawn (man_at p.men m.from) then (if is_capture p m then Some (file_of m.from) else None) else file_among (rivals_of p m) m

abbrev pub given_rank : Board → Move → Option ℕ
given_rank p m = if is_pawn (man_at p.men m.from) then None else rank_among (rivals_of p m) m

-- the written parts
abbrev pub piece_parts : Board → Move → PieceMove
piece_parts p m = record {
  piece = piece_of_man (man_at p.men m.from);
  file = given_file p m;
  rank = given_rank p m;
  goal = m.to;
  promotion = m.promotion;
}

unfoldable pub san_parts : Board → Move → Parts
san_parts p m = if m.null then Null else (if is_castling p m then Castling (goes_right m) else Moved (piece_parts p m))

-- the text of each part
abbrev pub letter : Piece → List ℕ
letter King = codes "K"
letter Queen = codes "Q"
letter Rook = codes "R"
letter Bishop = codes "B"
letter Knight = codes "N"
letter Pawn = []

abbrev pub coordinate : ℕ → Option ℕ → List ℕ
coordinate first None = []
coordinate first (Some n) = (first + n) ∷ []

abbrev pub promotion_text : Promotion → List ℕ
promotion_text NoPromotion = []
promotion_text ToQueen = codes "=Q"
promotion_text ToRook = codes "=R"
promotion_text ToBishop = codes "=B"
promotion_text ToKnight = codes "=N"

abbrev pub capture_sign : Bool → List ℕ
capture_sign true = codes "x"
capture_sign false = []

abbrev pub parts_text : Bool → Parts → List ℕ
parts_text capture (Castling true) = codes "O-O"
parts_text capture (Castling false) = codes "O-O-O"
parts_text capture Null = codes "--"
parts_text capture (Moved m) =
    letter m.piece ++ coordinate 97 m.file ++ coordinate 49 m.rank ++ capture_sign capture
    ++ ((97 + file_of m.goal) ∷ []) ++ ((49 + rank_of m.goal) ∷ []) ++ promotion_text m.promotion

-- `+` for check and `#` for mate
abbrev pub check_sign : (check : Bool) → List Move → List ℕ
check_sign false moves = []
check_sign true [] = codes "#"
check_sign true (m ∷ ms) = codes "+"

abbrev pub sign_of : Board → List ℕ
sign_of q = check_sign (in_check q.men q.side) (legal_list q)

-- the text of a move; a null move has no sign
unfoldable pub san_text : Board → Move → List ℕ
san_text p m = if m.null then codes "--" else parts_text (is_capture p m) (san_parts p m) ++ sign_of (after p m)

-- the given origin is on the board
abbrev pub AreOnBoard : Parts → Type 0
AreOnBoard (Castling kingside) = Unit {0}
AreOnBoard Null = Unit {0}
AreOnBoard (Moved m) = IfSome m.file (λ n. n < 8) × IfSome m.rank (λ n. n < 8)
