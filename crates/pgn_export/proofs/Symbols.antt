-- The texts of numbers and moves are symbols: those of digits number a move, the others are moves.
use Rattle.std.proofs.Common.{◌≡◌, ℕ, ◌+◌, ◌<◌, Bool, true, false, List, [], ◌∷◌, ◌++◌, length, Option, Some, None, refl, sym, ap, ◌∙◌, arith, true≢false, length-append}
use Rattle.std.specs.Prelude.{◌||◌, ◌&&◌, ◌==◌, codes, decimal, if◌then◌else◌, IfSome}
use Rattle.std.specs.List.{AllByRecursion, list_any, list_all}
use Rattle.std.specs.Char.{is_ascii_digit, is_ascii_alphabetic, is_ascii_alphanumeric, digit_value}
use Rattle.std.specs.Str.{bytes_eq}
use Rattle.std.specs.Str.Parse.{digits_value, AllDigits}
use Rattle.std.proofs.lemmas.Str.Parse.{digit_from_value}
use Rattle.std.proofs.lemmas.Bool.{false_from_ne_true}
use Rattle.std.proofs.lemmas.Bool.Decides.{nat_tests}
use Rattle.std.proofs.lemmas.Fmt.{decimal_is_IsNumeral}
use Rattle.std.proofs.lemmas.Slice.Eq.{bytes_eq-Decides}
use Rattle.cq_geometry.specs.Squares.{file_of, rank_of}
use Rattle.cq_position.specs.declared.games.GameResult.{GameResult}
use Rattle.cq_position.specs.declared.games.GameResult.TheVariants.{White, Black, Draw, Open as Undecided}
use Rattle.cq_position.specs.declared.men.Promotion.{Promotion}
use Rattle.cq_position.specs.declared.men.Promotion.TheVariants.{None as NoPromotion, Q as ToQueen, R as ToRook, B as ToBishop, N as ToKnight}
use Rattle.cq_position.specs.declared.moves.Move.{Move}
use Rattle.cq_position.specs.Attacks.{in_check}
use Rattle.cq_position.specs.Board.{Board}
use Rattle.cq_position.specs.Legal.{Leads, is_castling, after}
use Rattle.cq_position.specs.Position.{IsPosition}
use Rattle.cq_moves.specs.LegalMoves.{legal_list}
use Rattle.cq_position.specs.declared.men.Piece.{Piece}
use Rattle.cq_position.specs.declared.men.Piece.TheVariants.{King, Queen, Rook, Bishop, Knight, Pawn}
use Rattle.cq_san.specs.declared.parts.PieceMove.{PieceMove}
use Rattle.cq_san.specs.declared.parts.Parts.TheVariants.{Castling, Null, Moved}
use Rattle.cq_san.specs.Fits.{goes_right}
use Rattle.cq_san.specs.Writing.{letter, coordinate, promotion_text, capture_sign, parts_text, is_capture, piece_parts, san_parts, san_text, check_sign, sign_of, AreOnBoard}
use Rattle.cq_san.proofs.Room.{on_board, parts_on_board}
use Rattle.pgn_lexer.specs.Bytes.{continues_symbol}
use Rattle.pgn_reader.specs.Words.{result_of_text, sense_of_symbol, sense_of_marker, plays, means_nothing}

-- each byte continues a symbol, and the first, if there is one, begins one
abbrev Goes : List ℕ → Type 0
Goes text = AllByRecursion (λ c. continues_symbol c ≡ true) text

abbrev MayBegin : List ℕ → Type 0
MayBegin [] = Unit {0}
MayBegin (b ∷ bs) = is_ascii_alphanumeric b ≡ true

record IsSymbolic (text : List ℕ) : Type 0 where
  goes : Goes text
  begins : MayBegin text

goes_append : (xs ys : List ℕ) → Goes xs → Goes ys → Goes (xs ++ ys)
goes_append [] ys a b = b
goes_append (x ∷ xs) ys a b = (a.0, goes_append xs ys a.1 b)

begins_append : (xs ys : List ℕ) → MayBegin xs → MayBegin ys → MayBegin (xs ++ ys)
begins_append [] ys a b = b
begins_append (x ∷ xs) ys a b = a

symbolic_append : (xs ys : List ℕ) → IsSymbolic xs → IsSymbolic ys → IsSymbolic (xs ++ ys)
symbolic_append xs ys a b = record { goes = goes_append xs ys a.goes b.goes; begins = begins_append xs ys a.begins b.begins }

-- bytes that continue a symbol come after some bytes of one
symbolic_then : (xs ys : List ℕ) → 0 < length xs → IsSymbolic xs → Goes ys → IsSymbolic (xs ++ ys)
symbolic_then [] ys some a b = absurd (omega (arith, some))
symbolic_then (x ∷ xs) ys some a b = record { goes = goes_append (x ∷ xs) ys a.goes b; begins = a.begins }

goes_begun : (b : ℕ) → is_ascii_alphanumeric b ≡ true → continues_symbol b ≡ true
goes_begun b begins = ap (λ t. t || list_any (λ c. b == c) (codes "_+#=:-/")) begins

symbolic_byte : (b : ℕ) → is_ascii_alphanumeric b ≡ true → IsSymbolic (b ∷ [])
symbolic_byte b begins = record { goes = (goes_begun b begins, tt); begins = begins }

symbolic_none : IsSymbolic []
symbolic_none = record { goes = tt; begins = tt }

-- a text that isn't empty is a symbol
pub record IsSymbolText (text : List ℕ) : Type 0 where
  pub first : ℕ
  pub more : List ℕ
  pub is : text ≡ first ∷ more
  pub begins : is_ascii_alphanumeric first ≡ true
  pub goes : AllByRecursion (λ c. continues_symbol c ≡ true) more

symbol_text : (text : List ℕ) → 0 < length text → IsSymbolic text → IsSymbolText text
symbol_text [] some s = absurd (omega (arith, some))
symbol_text (b ∷ bs) some s = record { first = b; more = bs; is = refl; begins = s.begins; goes = s.goes.1 }

-- a text with a letter
pub HasLetter : List ℕ → Type 0
HasLetter text = list_any is_ascii_alphabetic text ≡ true

or_left : (s t : Bool) → s ≡ true → (s || t) ≡ true
or_left true t e = refl
or_left false t e = absurd (true≢false (sym e))

or_right : (s t : Bool) → t ≡ true → (s || t) ≡ true
or_right true t e = refl
or_right false t e = e

or_more : (t rest all : Bool) → (rest ≡ true → all ≡ true) → (t || rest) ≡ true → (t || all) ≡ true
or_more true rest all f e = refl
or_more false rest all f e = f e

letter_left : (xs ys : List ℕ) → HasLetter xs → HasLetter (xs ++ ys)
unfolding HasLetter
letter_left [] ys h = absurd (true≢false (sym h))
letter_left (x ∷ xs) ys h = or_more (is_ascii_alphabetic x) (list_any is_ascii_alphabetic xs) (list_any is_ascii_alphabetic (xs ++ ys)) (letter_left xs ys) h

letter_right : (xs ys : List ℕ) → HasLetter ys → HasLetter (xs ++ ys)
unfolding HasLetter
letter_right [] ys h = h
letter_right (x ∷ xs) ys h = or_right (is_ascii_alphabetic x) (list_any is_ascii_alphabetic (xs ++ ys)) (letter_right xs ys h)

-- digits have no letter, and no marker has one
digit_no_letter : (b : ℕ) → is_ascii_digit b ≡ true → is_ascii_alphabetic b ≡ false
digit_no_letter b digit = grind (arith, nat_tests)

and_parts_of : (s t : Bool) → (s && t) ≡ true → (s ≡ true) × (t ≡ true)
and_parts_of true t e = (refl, e)
and_parts_of false t e = absurd (true≢false (sym e))

digits_no_letter : (text : List ℕ) → list_all is_ascii_digit text ≡ true → list_any is_ascii_alphabetic text ≡ false
digits_no_letter [] all = refl
digits_no_letter (b ∷ bs) all =
    let both = and_parts_of (is_ascii_digit b) (list_all is_ascii_digit bs) all in
    ap (λ s. s || list_any is_ascii_alphabetic bs) (digit_no_letter b both.0) ∙ digits_no_letter bs both.1

letters_no_digits : (text : List ℕ) → HasLetter text → list_all is_ascii_digit text ≡ false
unfolding HasLetter
letters_no_digits text h = false_from_ne_true (list_all is_ascii_digit text) (λ all. true≢false (sym h ∙ digits_no_letter text all))

other_than : (t : Bool) (r rest : Option GameResult) → t ≡ false → rest ≡ None → (if t then r else rest) ≡ None
other_than true r rest e f = absurd (true≢false e)
other_than false r rest e f = f

letters_no_marker : (text : List ℕ) → HasLetter text → result_of_text text ≡ None
unfolding result_of_text HasLetter
letters_no_marker text h =
    other_than (bytes_eq text (codes "1-0")) (Some White) _ (not_this (codes "1-0") refl)
    (other_than (bytes_eq text (codes "0-1")) (Some Black) _ (not_this (codes "0-1") refl)
    (other_than (bytes_eq text (codes "1/2-1/2")) (Some Draw) _ (not_this (codes "1/2-1/2") refl)
    (other_than (bytes_eq text (codes "*")) (Some Undecided) None (not_this (codes "*") refl) refl)))
  where
    not_this : (marker : List ℕ) → list_any is_ascii_alphabetic marker ≡ false → bytes_eq text marker ≡ false
    not_this marker none = false_from_ne_true (bytes_eq text marker) (λ same. true≢false (sym h ∙ ap (list_any is_ascii_alphabetic) ((bytes_eq-Decides text marker).0 same) ∙ none))

-- a symbol with a letter is a move of the movetext
pub letters_play : (text : List ℕ) → HasLetter text → sense_of_symbol text ≡ plays text
unfolding sense_of_symbol
letters_play text h =
    ap (λ t. if t then means_nothing else sense_of_marker text (result_of_text text)) (letters_no_digits text h)
    ∙ ap (sense_of_marker text) (letters_no_marker text h)

-- digits number a move
pub digits_mean_nothing : (text : List ℕ) → list_all is_ascii_digit text ≡ true → sense_of_symbol text ≡ means_nothing
unfolding sense_of_symbol
digits_mean_nothing text all = ap (λ t. if t then means_nothing else sense_of_marker text (result_of_text text)) all

-- a number's digits
pub record AreDigits (digits : List ℕ) : Type 0 where
  pub some : 0 < length digits
  pub all : AllByRecursion (λ d. is_ascii_digit d ≡ true) digits
  pub test : list_all is_ascii_digit digits ≡ true

digits_pass : (digits : List ℕ) → AllByRecursion (λ d. is_ascii_digit d ≡ true) digits → list_all is_ascii_digit digits ≡ true
digits_pass [] all = refl
digits_pass (d ∷ ds) all = ap (λ t. t && list_all is_ascii_digit ds) all.0 ∙ digits_pass ds all.1

digit_begins : (d : ℕ) → is_ascii_digit d ≡ true → is_ascii_alphanumeric d ≡ true
digit_begins d digit = grind (arith, nat_tests)

digits_symbolic : (digits : List ℕ) → AllByRecursion (λ d. is_ascii_digit d ≡ true) digits → IsSymbolic digits
digits_symbolic [] all = symbolic_none
digits_symbolic (d ∷ ds) all = symbolic_append (d ∷ []) ds (symbolic_byte d (digit_begins d all.0)) (digits_symbolic ds all.1)

pub number_symbol : (digits : List ℕ) → AreDigits digits → IsSymbolText digits
number_symbol digits are = symbol_text digits are.some (digits_symbolic digits are.all)

-- the parts of a move's text
letter_symbolic : (piece : Piece) → IsSymbolic (letter piece)
letter_symbolic King = symbolic_byte 75 refl
letter_symbolic Queen = symbolic_byte 81 refl
letter_symbolic Rook = symbolic_byte 82 refl
letter_symbolic Bishop = symbolic_byte 66 refl
letter_symbolic Knight = symbolic_byte 78 refl
letter_symbolic Pawn = symbolic_none

file_begins : (n : ℕ) → n < 8 → is_ascii_alphanumeric (97 + n) ≡ true
file_begins n small = grind (arith, nat_tests)

file_letter : (n : ℕ) → n < 8 → is_ascii_alphabetic (97 + n) ≡ true
file_letter n small = grind (arith, nat_tests)

rank_begins : (n : ℕ) → n < 8 → is_ascii_alphanumeric (49 + n) ≡ true
rank_begins n small = grind (arith, nat_tests)

file_symbolic : (o : Option ℕ) → IfSome o (λ n. n < 8) → IsSymbolic (coordinate 97 o)
file_symbolic None small = symbolic_none
file_symbolic (Some n) small = symbolic_byte (97 + n) (file_begins n small)

rank_symbolic : (o : Option ℕ) → IfSome o (λ n. n < 8) → IsSymbolic (coordinate 49 o)
rank_symbolic None small = symbolic_none
rank_symbolic (Some n) small = symbolic_byte (49 + n) (rank_begins n small)

capture_symbolic : (capture : Bool) → IsSymbolic (capture_sign capture)
capture_symbolic true = symbolic_byte 120 refl
capture_symbolic false = symbolic_none

promotion_goes : (choice : Promotion) → Goes (promotion_text choice)
promotion_goes NoPromotion = tt
promotion_goes ToQueen = (refl, (refl, tt))
promotion_goes ToRook = (refl, (refl, tt))
promotion_goes ToBishop = (refl, (refl, tt))
promotion_goes ToKnight = (refl, (refl, tt))

sign_goes : (check : Bool) (moves : List Move) → Goes (check_sign check moves)
sign_goes false moves = tt
sign_goes true [] = (refl, tt)
sign_goes true (m ∷ ms) = (refl, tt)

-- a move's text is a symbol with a letter
pub record IsMoveText (text : List ℕ) : Type 0 where
  pub symbol : IsSymbolText text
  pub plays_it : sense_of_symbol text ≡ plays text

move_text : (text : List ℕ) → 0 < length text → IsSymbolic text → HasLetter text → IsMoveText text
move_text text some s h = record { symbol = symbol_text text some s; plays_it = letters_play text h }

signed : (text : List ℕ) (check : Bool) (moves : List Move) → 0 < length text → IsSymbolic text → HasLetter text → IsMoveText (text ++ check_sign check moves)
signed text check moves some s h =
    let n = length-append text (check_sign check moves) in
    move_text (text ++ check_sign check moves) (omega (arith, some, n)) (symbolic_then text (check_sign check moves) some s (sign_goes check moves)) (letter_left text (check_sign check moves) h)

castling_moves : (kingside capture check : Bool) (moves : List Move) → IsMoveText (parts_text capture (Castling kingside) ++ check_sign check moves)
unfolding HasLetter
castling_moves true capture check moves = signed (codes "O-O") check moves (omega arith) (record { goes = (refl, (refl, (refl, tt))); begins = refl }) refl
castling_moves false capture check moves = signed (codes "O-O-O") check moves (omega arith) (record { goes = (refl, (refl, (refl, (refl, (refl, tt))))); begins = refl }) refl

one_letter : (b : ℕ) → is_ascii_alphabetic b ≡ true → HasLetter (b ∷ [])
unfolding HasLetter
one_letter b e = ap (λ t. t || false) e

piece_moves : (capture : Bool) (m : PieceMove) (check : Bool) (moves : List Move) → IfSome m.file (λ n. n < 8) → IfSome m.rank (λ n. n < 8) → m.goal < 64
    → IsMoveText (parts_text capture (Moved m) ++ check_sign check moves)
piece_moves capture m check moves file rank goal =
    let goal_file : List ℕ = (97 + file_of m.goal) ∷ [] in
    let goal_rank : List ℕ = (49 + rank_of m.goal) ∷ [] in
    let f : file_of m.goal < 8 = omega arith in
    let r : rank_of m.goal < 8 = omega (arith, goal) in
    let two = letter m.piece ++ coordinate 97 m.file in
    let three = two ++ coordinate 49 m.rank in
    let four = three ++ capture_sign capture in
    let five = four ++ goal_file in
    let six = five ++ goal_rank in
    let all = six ++ promotion_text m.promotion in
    let before = symbolic_append three (capture_sign capture)
    (symbolic_append two (coordinate 49 m.rank) (symbolic_append (letter m.piece) (coordinate 97 m.file) (letter_symbolic m.piece) (file_symbolic m.file file)) (rank_symbolic m.rank rank))
    (capture_symbolic capture) in
    let goes = symbolic_append five goal_rank (symbolic_append four goal_file before
    (symbolic_byte (97 + file_of m.goal) (file_begins (file_of m.goal) f))) (symbolic_byte (49 + rank_of m.goal) (rank_begins (rank_of m.goal) r)) in
    let lettered = letter_left five goal_rank (letter_right four goal_file (one_letter (97 + file_of m.goal) (file_letter (file_of m.goal) f))) in
    let n = length-append five goal_rank in
    let k = length-append six (promotion_text m.promotion) in
    let some : 0 < length six = omega (arith, n) in
    signed all check moves (omega (arith, some, k)) (symbolic_then six (promotion_text m.promotion) some goes (promotion_goes m.promotion)) (letter_left six (promotion_text m.promotion) lettered)

text_by : (p : Board) (m : Move) (null castling : Bool) → null ≡ false → m.to < 64 → AreOnBoard (if null then Null else (if castling then Castling (goes_right m) else Moved (piece_parts p m)))
    → IsMoveText (if null then codes "--" else parts_text (is_capture p m) (if null then Null else (if castling then Castling (goes_right m) else Moved (piece_parts p m))) ++ sign_of (after p m))
text_by p m true castling plain to on = absurd (true≢false plain)
text_by p m false true plain to on = castling_moves (goes_right m) (is_capture p m) (in_check (after p m).men (after p m).side) (legal_list (after p m))
text_by p m false false plain to on = piece_moves (is_capture p m) (piece_parts p m) (in_check (after p m).men (after p m).side) (legal_list (after p m)) on.0 on.1 to

pub move_is_symbol : (p : Board) (m : Move) (q : Board) → IsPosition p → Leads p m q → m.null ≡ false → IsMoveText (san_text p m)
unfolding san_text san_parts
move_is_symbol p m q kept leads plain =
    let on = on_board p m q kept leads in
    text_by p m m.null (is_castling p m) plain on.1 (parts_on_board p m on.0)

pub null_is_dashes : (p : Board) (m : Move) → m.null ≡ true → san_text p m ≡ codes "--"
unfolding san_text
null_is_dashes p m null = ap (λ t. if t then codes "--" else parts_text (is_capture p m) (san_parts p m) ++ sign_of (after p m)) null

-- the digits of a number that a position or a glyph has
value_digit : (d : ℕ) → digit_value d < 10 → is_ascii_digit d ≡ true
value_digit d small = let range = digit_from_value d small in grind (arith, nat_tests)

all_digits : (digits : List ℕ) → AllDigits 10 digits → AllByRecursion (λ d. is_ascii_digit d ≡ true) digits
all_digits [] all = tt
all_digits (d ∷ ds) all = (value_digit d all.0, all_digits ds all.1)

pub number_digits : (n : ℕ) → n < 4294967296 → AreDigits (decimal n)
number_digits n small =
    let numeral = decimal_is_IsNumeral n (omega (arith, small)) in
    let all = all_digits (decimal n) numeral.0.1 in
    record { some = numeral.0.0; all = all; test = digits_pass (decimal n) all }

pub number_value : (n : ℕ) → n < 4294967296 → digits_value 10 (decimal n) ≡ n
number_value n small = (decimal_is_IsNumeral n (omega (arith, small))).1
