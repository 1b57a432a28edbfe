-- A move's text has at most eight bytes.
use Rattle.std.proofs.Common.{◌≡◌, ℕ, ◌+◌, ◌<◌, ◌≤◌, Bool, true, false, cond, List, [], ◌∷◌, ◌++◌, length, Option, Some, None, refl, sym, ap, subst, inl, inr, ◌∙◌, arith, length-append}
use Rattle.std.specs.Prelude.{if◌then◌else◌, IfSome}
use Rattle.std.proofs.lemmas.Bool.{false≢true}
use Rattle.cq_position.specs.declared.men.Man.{Man}
use Rattle.cq_position.specs.declared.men.Man.TheVariants.{P, BlackP}
use Rattle.cq_position.specs.declared.men.Promotion.{Promotion}
use Rattle.cq_position.specs.declared.men.Promotion.TheVariants.{None as NoPromotion, Q as ToQueen, R as ToRook, B as ToBishop, N as ToKnight}
use Rattle.cq_position.specs.declared.moves.Move.{Move}
use Rattle.cq_position.specs.Board.{Board, man_at, is_pawn}
use Rattle.cq_position.specs.Legal.{Leads, is_none, is_castling, pawn_promotion_is_right}
use Rattle.cq_position.specs.Position.{IsPosition}
use Rattle.cq_position.specs.Attacks.{in_check}
use Rattle.cq_moves.specs.LegalMoves.{legal_list}
use Rattle.cq_moves.proofs.Law.{Moves, what_moves, legal_on_board}
use Rattle.cq_position.proofs.Legality.{legal_passes}
use Rattle.cq_position.specs.declared.men.Piece.{Piece}
use Rattle.cq_position.specs.declared.men.Piece.TheVariants.{King, Queen, Rook, Bishop, Knight, Pawn}
use Rattle.cq_san.specs.Fits.{goes_right}
use Rattle.cq_geometry.specs.Squares.{file_of, rank_of}
use Rattle.cq_san.specs.declared.parts.PieceMove.{PieceMove}
use Rattle.cq_san.specs.declared.parts.Parts.TheVariants.{Moved, Castling, Null}
use Rattle.cq_san.specs.Writing.{letter, coordinate, promotion_text, capture_sign, parts_text, piece_of_man, given_file, given_rank, rank_among, rivals_of, piece_parts, san_parts, check_sign, sign_of, tells, file_among, is_capture, AreOnBoard}

seven : (a b c d f g e : List ℕ) → length f ≡ 1 → length g ≡ 1 → length (a ++ b ++ c ++ d ++ f ++ g ++ e) ≡ length a + length b + length c + length d + 2 + length e
seven a b c d f g e one two = omega (
  arith,
  length-append (a ++ b ++ c ++ d ++ f ++ g) e,
  length-append (a ++ b ++ c ++ d ++ f) g,
  length-append
      (a ++ b ++ c ++ d) f,
  length-append (a ++ b ++ c) d,
  length-append (a ++ b) c,
  length-append a b,
)

-- the bytes of the parts together
pub parts_len : (capture : Bool) (m : PieceMove) → length (parts_text capture (Moved m))
    ≡ length (letter m.piece) + length (coordinate 97 m.file) + length (coordinate 49 m.rank) + length (capture_sign capture) + 2 + length (promotion_text m.promotion)
parts_len capture m =
    let a = letter m.piece in
    let b = coordinate 97 m.file in
    let c = coordinate 49 m.rank in
    let d = capture_sign capture in
    let f : List ℕ = (97 + file_of m.goal) ∷ [] in
    let g : List ℕ = (49 + rank_of m.goal) ∷ [] in
    let e = promotion_text m.promotion in
    seven a b c d f g e refl refl

letter_one : (k : Piece) → length (letter k) ≤ 1
letter_one King = omega arith
letter_one Queen = omega arith
letter_one Rook = omega arith
letter_one Bishop = omega arith
letter_one Knight = omega arith
letter_one Pawn = omega arith

coordinate_one : (first : ℕ) (o : Option ℕ) → length (coordinate first o) ≤ 1
coordinate_one first None = omega arith
coordinate_one first (Some n) = omega arith

capture_one : (capture : Bool) → length (capture_sign capture) ≤ 1
capture_one true = omega arith
capture_one false = omega arith

promotion_two : (choice : Promotion) → length (promotion_text choice) ≤ 2
promotion_two NoPromotion = omega arith
promotion_two ToQueen = omega arith
promotion_two ToRook = omega arith
promotion_two ToBishop = omega arith
promotion_two ToKnight = omega arith

none_empty : (choice : Promotion) → is_none choice ≡ true → length (promotion_text choice) ≡ 0
none_empty NoPromotion e = refl
none_empty _ e = absurd (cc)

pawn_letter : (man : Man) → is_pawn man ≡ true → length (letter (piece_of_man man)) ≡ 0
pawn_letter P e = refl
pawn_letter BlackP e = refl
pawn_letter _ e = absurd (cc)

-- a move's parts have at most seven bytes: a pawn has no letter and no rank, and another man no promotion
pub move_room : (p : Board) (m : Move) (capture : Bool) → Moves p m → length (parts_text capture (Moved (piece_parts p m))) ≤ 7
move_room p m capture w = by_pawn (is_pawn (man_at p.men m.from)) refl
  where
    by_pawn : (pawn : Bool) → is_pawn (man_at p.men m.from) ≡ pawn → length (parts_text capture (Moved (piece_parts p m))) ≤ 7
    by_pawn true pawn =
        let total = parts_len capture (piece_parts p m) in
        let l = pawn_letter (man_at p.men m.from) pawn in
        let f = coordinate_one 97 (given_file p m) in
        let r : length (coordinate 49 (given_rank p m)) ≡ 0 = ap (λ t. length (coordinate 49 (cond t None (rank_among (rivals_of p m) m)))) pawn in
        let c = capture_one capture in
        let q = promotion_two m.promotion in
        omega (arith, total, l, f, r, c, q)
    by_pawn false piece =
        let total = parts_len capture (piece_parts p m) in
        let l = letter_one (piece_of_man (man_at p.men m.from)) in
        let f = coordinate_one 97 (given_file p m) in
        let r = coordinate_one 49 (given_rank p m) in
        let c = capture_one capture in
        let none : is_none m.promotion ≡ true = subst (λ t. cond t (pawn_promotion_is_right p.side m) (is_none m.promotion) ≡ true) piece w.promotes_so in
        let q = none_empty m.promotion none in
        omega (arith, total, l, f, r, c, q)

pub parts_room : (p : Board) (m : Move) (capture : Bool) → ((q : Board) × Leads p m q) → m.null ≡ false → length (parts_text capture (san_parts p m)) ≤ 7
unfolding san_parts
parts_room p m capture leads plain =
    elim leads.1 [
      | inl legal ↦ by_castling m.null (is_castling p m) plain (what_moves p m (legal_passes p m leads.0 legal))
      | inr pass ↦ absurd (false≢true (sym plain ∙ ap (λ (x : Move). x.null) pass.null))
    ]
  where
    by_side : (kingside : Bool) → length (parts_text capture (Castling kingside)) ≤ 7
    by_side true = omega arith
    by_side false = omega arith

    by_castling : (null castling : Bool) → null ≡ false → Moves p m → length (parts_text capture (if null then Null else (if castling then Castling (goes_right m) else Moved (piece_parts p m)))) ≤ 7
    by_castling true castling e w = absurd (false≢true (sym e))
    by_castling false true e w = by_side (goes_right m)
    by_castling false false e w = move_room p m capture w

sign_by : (check : Bool) (moves : List Move) → length (check_sign check moves) ≤ 1
sign_by false moves = omega arith
sign_by true [] = omega arith
sign_by true (m ∷ ms) = omega arith

pub sign_one : (q : Board) → length (sign_of q) ≤ 1
sign_one q = sign_by (in_check q.men q.side) (legal_list q)

pub on_board : (p : Board) (m : Move) (q : Board) → IsPosition p → Leads p m q → (m.from < 64) × (m.to < 64)
on_board p m q kept leads =
    elim leads [
      | inl legal ↦ let b = legal_on_board p m kept.whole (legal_passes p m q legal) in (b.from, b.to)
      | inr pass ↦ subst (λ (x : Move). (x.from < 64) × (x.to < 64)) (sym pass.null) (omega arith, omega arith)
    ]

below_by : (t : Bool) (a b : Option ℕ) → IfSome a (λ n. n < 8) → IfSome b (λ n. n < 8) → IfSome (cond t a b) (λ n. n < 8)
below_by true a b x y = x
below_by false a b x y = y

file_below : (others : List Move) (m : Move) → IfSome (file_among others m) (λ n. n < 8)
file_below [] m = tt
file_below (n ∷ ns) m = below_by (tells file_of (n ∷ ns) m) (Some (file_of m.from)) _ (omega arith) (below_by (tells rank_of (n ∷ ns) m) None (Some (file_of m.from)) tt (omega arith))

rank_below : (others : List Move) (m : Move) → m.from < 64 → IfSome (rank_among others m) (λ n. n < 8)
rank_below [] m small = tt
rank_below (n ∷ ns) m small = below_by (tells file_of (n ∷ ns) m) None (Some (rank_of m.from)) tt (omega arith)

piece_on_board : (p : Board) (m : Move) → m.from < 64 → AreOnBoard (Moved (piece_parts p m))
piece_on_board p m small = (
  below_by (is_pawn (man_at p.men m.from)) _ _ (below_by (is_capture p m) (Some (file_of m.from)) None (omega arith) tt) (file_below (rivals_of p m) m),
  below_by (is_pawn (man_at p.men m.from)) None _ tt (rank_below (rivals_of p m) m small),
)

by_kind : (p : Board) (m : Move) (null castling : Bool) → m.from < 64 → AreOnBoard (if null then Null else (if castling then Castling (goes_right m) else Moved (piece_parts p m)))
by_kind p m true castling small = tt
by_kind p m false true small = tt
by_kind p m false false small = piece_on_board p m small

pub parts_on_board : (p : Board) (m : Move) → m.from < 64 → AreOnBoard (san_parts p m)
unfolding san_parts
parts_on_board p m small = by_kind p m m.null (is_castling p m) small
