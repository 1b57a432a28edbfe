-- Moves are written in characters that need no escape in a string.
use Rattle.std.proofs.Common.{ℕ, ◌+◌, ◌<◌, Bool, true, false, List, [], ◌∷◌, ◌++◌, Option, Some, None, refl, arith, codes}
use Rattle.std.specs.Prelude.{if◌then◌else◌, IfSome}
use Rattle.cq_geometry.specs.Squares.{file_of, rank_of}
use Rattle.cq_moves.specs.LegalMoves.{legal_list}
use Rattle.cq_position.specs.Attacks.{in_check}
use Rattle.cq_position.specs.Board.{Board}
use Rattle.cq_position.specs.Legal.{after, is_castling}
use Rattle.cq_position.specs.declared.games.GameResult.{GameResult}
use Rattle.cq_position.specs.declared.games.GameResult.TheVariants.{White as WhiteWon, Black as BlackWon, Draw, Open as Undecided}
use Rattle.cq_position.specs.declared.men.Piece.{Piece}
use Rattle.cq_position.specs.declared.men.Piece.TheVariants.{King, Queen, Rook, Bishop, Knight, Pawn}
use Rattle.cq_position.specs.declared.men.Promotion.{Promotion}
use Rattle.cq_position.specs.declared.men.Promotion.TheVariants.{None as NoPromotion, Q as ToQueen, R as ToRook, B as ToBishop, N as ToKnight}
use Rattle.cq_position.specs.declared.moves.Move.{Move}
use Rattle.cq_san.proofs.Room.{parts_on_board}
use Rattle.cq_san.specs.Fits.{goes_right}
use Rattle.cq_san.specs.Writing.{AreOnBoard, capture_sign, check_sign, coordinate, is_capture, letter, parts_text, piece_parts, promotion_text, san_parts, san_text, sign_of}
use Rattle.cq_san.specs.declared.parts.PieceMove.{PieceMove}
use Rattle.cq_san.specs.declared.parts.Parts.TheVariants.{Castling, Null, Moved}
use Rattle.pgn_tree.specs.Results.{result_text}
use Rattle.pgn_json.specs.Moves.{promotion_letter, square_text, uci_text}
use Rattle.pgn_json.proofs.Plain.{IsPlain, both_plain, either_plain, high_plain, letter_plain, low_plain, square_plain}

pub result_plain : (ending : GameResult) → IsPlain (result_text ending)
result_plain WhiteWon = refl
result_plain BlackWon = refl
result_plain Draw = refl
result_plain Undecided = refl

becomes_plain : (promotion : Promotion) → IsPlain (promotion_letter promotion)
becomes_plain NoPromotion = refl
becomes_plain ToQueen = refl
becomes_plain ToRook = refl
becomes_plain ToBishop = refl
becomes_plain ToKnight = refl

pub uci_plain : (m : Move) → m.from < 64 → m.to < 64 → IsPlain (uci_text m)
uci_plain m from to =
    let goal = square_text m.to ++ promotion_letter m.promotion in
    either_plain m.null (codes "0000") (square_text m.from ++ goal) refl
    (both_plain (square_text m.from) goal (square_plain m.from (omega (arith, from)))
    (both_plain (square_text m.to) (promotion_letter m.promotion) (square_plain m.to (omega (arith, to))) (becomes_plain m.promotion)))

piece_plain : (piece : Piece) → IsPlain (letter piece)
piece_plain King = refl
piece_plain Queen = refl
piece_plain Rook = refl
piece_plain Bishop = refl
piece_plain Knight = refl
piece_plain Pawn = refl

file_plain : (file : Option ℕ) → IfSome file (λ n. n < 8) → IsPlain (coordinate 97 file)
file_plain None low = refl
file_plain (Some n) low = letter_plain (97 + n) (high_plain (97 + n) (omega arith) (omega (arith, low)))

rank_plain : (rank : Option ℕ) → IfSome rank (λ n. n < 8) → IsPlain (coordinate 49 rank)
rank_plain None low = refl
rank_plain (Some n) low = letter_plain (49 + n) (low_plain (49 + n) (omega arith) (omega (arith, low)))

capture_plain : (capture : Bool) → IsPlain (capture_sign capture)
capture_plain true = refl
capture_plain false = refl

promotion_plain : (promotion : Promotion) → IsPlain (promotion_text promotion)
promotion_plain NoPromotion = refl
promotion_plain ToQueen = refl
promotion_plain ToRook = refl
promotion_plain ToBishop = refl
promotion_plain ToKnight = refl

moved_plain : (capture : Bool) (m : PieceMove) → AreOnBoard (Moved m) → m.goal < 64 → IsPlain (parts_text capture (Moved m))
moved_plain capture m on goal =
    let piece = letter m.piece in
    let file = coordinate 97 m.file in
    let rank = coordinate 49 m.rank in
    let sign = capture_sign capture in
    let to = (97 + file_of m.goal) ∷ [] in
    let there = (49 + rank_of m.goal) ∷ [] in
    both_plain (piece ++ file ++ rank ++ sign ++ to ++ there) (promotion_text m.promotion)
    (both_plain (piece ++ file ++ rank ++ sign ++ to) there
    (both_plain (piece ++ file ++ rank ++ sign) to
    (both_plain (piece ++ file ++ rank) sign
    (both_plain (piece ++ file) rank (both_plain piece file (piece_plain m.piece) (file_plain m.file on.0)) (rank_plain m.rank on.1))
    (capture_plain capture))
    (letter_plain (97 + file_of m.goal) (high_plain (97 + file_of m.goal) (omega arith) (omega arith))))
    (letter_plain (49 + rank_of m.goal) (low_plain (49 + rank_of m.goal) (omega arith) (omega (arith, goal)))))
    (promotion_plain m.promotion)

castled_plain : (capture kingside : Bool) → IsPlain (parts_text capture (Castling kingside))
castled_plain capture true = refl
castled_plain capture false = refl

parts_plain : (p : Board) (m : Move) (capture : Bool) → m.from < 64 → m.to < 64 → IsPlain (parts_text capture (san_parts p m))
unfolding san_parts
parts_plain p m capture from to = by_kind m.null (is_castling p m) (parts_on_board p m from)
  where
    by_kind : (null castling : Bool) → AreOnBoard (if null then Null else (if castling then Castling (goes_right m) else Moved (piece_parts p m)))
        → IsPlain (parts_text capture (if null then Null else (if castling then Castling (goes_right m) else Moved (piece_parts p m))))
    by_kind true castling on = refl
    by_kind false true on = castled_plain capture (goes_right m)
    by_kind false false on = moved_plain capture (piece_parts p m) on to

sign_plain : (check : Bool) (moves : List Move) → IsPlain (check_sign check moves)
sign_plain false moves = refl
sign_plain true [] = refl
sign_plain true (m ∷ ms) = refl

pub san_plain : (p : Board) (m : Move) → m.from < 64 → m.to < 64 → IsPlain (san_text p m)
unfolding san_text
san_plain p m from to =
    let q = after p m in
    either_plain m.null (codes "--") (parts_text (is_capture p m) (san_parts p m) ++ sign_of q) refl
    (both_plain (parts_text (is_capture p m) (san_parts p m)) (sign_of q) (parts_plain p m (is_capture p m) from to)
    (sign_plain (in_check q.men q.side) (legal_list q)))
