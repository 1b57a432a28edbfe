-- The text of a move spells its parts.
use Rattle.std.proofs.Common.{ℕ, ◌+◌, ◌<◌, Bool, true, false, cond, List, [], ◌∷◌, ◌++◌, Option, Some, None, refl, inl, inr, arith}
use Rattle.std.specs.Prelude.{codes, if◌then◌else◌}
use Rattle.std.specs.List.{All}
use Rattle.std.proofs.lemmas.List.Elements.{All-nil, All-cons}
use Rattle.cq_geometry.specs.Squares.{file_of, rank_of}
use Rattle.cq_position.specs.declared.men.Promotion.{Promotion}
use Rattle.cq_position.specs.declared.men.Promotion.TheVariants.{None as NoPromotion, Q as ToQueen, R as ToRook, B as ToBishop, N as ToKnight}
use Rattle.cq_position.specs.declared.moves.Move.{Move}
use Rattle.cq_position.specs.declared.men.Piece.{Piece}
use Rattle.cq_position.specs.declared.men.Piece.TheVariants.{King, Queen, Rook, Bishop, Knight, Pawn}
use Rattle.cq_san.specs.declared.parts.Parts.{Parts}
use Rattle.cq_san.specs.declared.parts.Parts.TheVariants.{Castling, Null, Moved}
use Rattle.cq_san.specs.Spelling.{NamesPiece, NamesCoordinate, NamesIfGiven, IsCaptureSign, NamesPromotion, IsCheckSign, Spells}
use Rattle.cq_position.specs.Board.{Board, man_at, is_pawn}
use Rattle.cq_position.specs.Attacks.{in_check}
use Rattle.cq_position.specs.Legal.{is_castling, after}
use Rattle.cq_moves.specs.LegalMoves.{legal_list}
use Rattle.cq_san.specs.Fits.{goes_right}
use Rattle.cq_san.specs.Writing.{is_capture, rivals_of, tells, file_among, rank_among, piece_parts, san_parts, san_text, sign_of, letter, coordinate, promotion_text, capture_sign, parts_text, check_sign}

letter_names : (k : Piece) → NamesPiece (letter k) k
letter_names King = refl
letter_names Queen = refl
letter_names Rook = refl
letter_names Bishop = refl
letter_names Knight = refl
letter_names Pawn = inr refl

-- a coordinate that is given is one of eight
IsBelow8 : Option ℕ → Type 0
IsBelow8 None = Unit {0}
IsBelow8 (Some n) = n < 8

coordinate_names : (first : ℕ) (o : Option ℕ) → IsBelow8 o → NamesIfGiven (NamesCoordinate first) (coordinate first o) o
unfolding IsBelow8
coordinate_names first None below = refl
coordinate_names first (Some n) below = (below, refl)

promotion_names : (choice : Promotion) → NamesPromotion (promotion_text choice) choice
promotion_names NoPromotion = refl
promotion_names ToQueen = inr refl
promotion_names ToRook = inr refl
promotion_names ToBishop = inr refl
promotion_names ToKnight = inr refl

capture_is_sign : (capture : Bool) → IsCaptureSign (capture_sign capture)
capture_is_sign true = inl refl
capture_is_sign false = inr (inr refl)

signs_are : (check : Bool) (moves : List Move) → All IsCheckSign (check_sign check moves)
signs_are false moves = All-nil IsCheckSign
signs_are true [] = All-cons IsCheckSign 35 [] (inr refl) (All-nil IsCheckSign)
signs_are true (m ∷ ms) = All-cons IsCheckSign 43 [] (inl refl) (All-nil IsCheckSign)

-- the parts that can be written: their coordinates are of the board
AreWritable : Parts → Type 0
AreWritable (Castling kingside) = Unit {0}
AreWritable Null = ⊥
AreWritable (Moved m) = IsBelow8 m.file × IsBelow8 m.rank × (m.goal < 64)

parts_spelled : (capture : Bool) (parts : Parts) (signs : List ℕ) → AreWritable parts → All IsCheckSign signs → Spells (parts_text capture parts ++ signs) parts
unfolding AreWritable
parts_spelled capture (Castling true) signs fit are = record { body = codes "O-O"; signs = signs; joined = refl; is_text = inl refl; are_signs = are }
parts_spelled capture (Castling false) signs fit are = record { body = codes "O-O-O"; signs = signs; joined = refl; is_text = inl refl; are_signs = are }
parts_spelled capture Null signs fit are = absurd fit
parts_spelled capture (Moved m) signs fit are = record {
  body = parts_text capture (Moved m);
  signs = signs;
  joined = refl;
  is_text = record {
    piece = letter m.piece;
    file = coordinate 97 m.file;
    rank = coordinate 49 m.rank;
    capture_sign = capture_sign capture;
    goal_file = (97 + file_of m.goal) ∷ [];
    goal_rank = (49 + rank_of m.goal) ∷ [];
    promotion = promotion_text m.promotion;
    joined = refl;
    names_piece = letter_names m.piece;
    names_file = coordinate_names 97 m.file fit.0;
    names_rank = coordinate_names 49 m.rank fit.1;
    is_capture_sign = capture_is_sign capture;
    names_goal_file = (omega arith, refl);
    names_goal_rank = (let small = fit.2 in omega arith, refl);
    names_promotion = promotion_names m.promotion;
  };
  are_signs = are;
}

-- the text of a move spells its parts
below_of : (part : ℕ) → part < 8 → IsBelow8 (Some part)
unfolding IsBelow8
below_of part small = small

below_by : (t : Bool) (a b : Option ℕ) → IsBelow8 a → IsBelow8 b → IsBelow8 (cond t a b)
below_by true a b x y = x
below_by false a b x y = y

below_none : IsBelow8 None
unfolding IsBelow8
below_none = tt

file_below : (others : List Move) (m : Move) → m.from < 64 → IsBelow8 (file_among others m)
file_below [] m small = below_none
file_below (n ∷ ns) m small =
    let f = below_of (file_of m.from) (omega arith) in
    below_by (tells file_of (n ∷ ns) m) (Some (file_of m.from)) _ f (below_by (tells rank_of (n ∷ ns) m) None (Some (file_of m.from)) below_none f)

rank_below : (others : List Move) (m : Move) → m.from < 64 → IsBelow8 (rank_among others m)
rank_below [] m small = below_none
rank_below (n ∷ ns) m small = below_by (tells file_of (n ∷ ns) m) None (Some (rank_of m.from)) below_none (below_of (rank_of m.from) (omega arith))

castling_text : (kingside capture : Bool) (signs : List ℕ) → All IsCheckSign signs → Spells (parts_text capture (Castling kingside) ++ signs) (Castling kingside)
unfolding AreWritable
castling_text kingside capture signs are = parts_spelled capture (Castling kingside) signs tt are

text_by : (p : Board) (m : Move) (null castling : Bool) → m.from < 64 → m.to < 64
    → Spells (if null then codes "--" else parts_text (is_capture p m) (if null then Null else (if castling then Castling (goes_right m) else Moved (piece_parts p m))) ++ sign_of (after p m))
    (if null then Null else (if castling then Castling (goes_right m) else Moved (piece_parts p m)))
unfolding AreWritable
text_by p m true castling from to = inr refl
text_by p m false true from to = castling_text (goes_right m) (is_capture p m) (sign_of (after p m)) (signs_are (in_check (after p m).men (after p m).side) (legal_list (after p m)))
text_by p m false false from to =
    parts_spelled (is_capture p m) (Moved (piece_parts p m)) (sign_of (after p m)) (
      below_by (is_pawn (man_at p.men m.from)) _ _ (below_by (is_capture p m) (Some (file_of m.from)) None (below_of (file_of m.from) (omega arith)) below_none) (file_below (rivals_of p m) m from),
      below_by (is_pawn (man_at p.men m.from)) None _ below_none (rank_below (rivals_of p m) m from),
      to,
    )
    (signs_are (in_check (after p m).men (after p m).side) (legal_list (after p m)))

pub text_spells : (p : Board) (m : Move) → m.from < 64 → m.to < 64 → Spells (san_text p m) (san_parts p m)
unfolding san_text san_parts
text_spells p m from to = text_by p m m.null (is_castling p m) from to
