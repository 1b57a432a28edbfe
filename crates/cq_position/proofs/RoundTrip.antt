-- The text of a position is read as that position.
use Rattle.std.proofs.Common.{◌≡◌, ℕ, ◌+◌, ◌-◌, ◌*◌, ◌/◌, ◌%◌, ◌^◌, ◌<◌, ◌≤◌, max, Bool, true, false, not, ◌&&◌, ◌||◌, eqb, Option, Some, None, Ok, List, [], ◌∷◌, ◌++◌, length, refl, ap, ◌∙◌, arith, lit<}
use Rattle.std.specs.Prelude.{decimal, nat_le}
use Rattle.std.specs.List.{list_all, join_with_byte}
use Rattle.std.proofs.lemmas.Grind.{pow_more}
use Rattle.std.proofs.lemmas.Bool.{eqb-true}
use Rattle.std.proofs.lemmas.Bool.Decides.{nat_tests}
use Rattle.std.proofs.lemmas.Fmt.{decimal_by_steps, length-decimal-le}
use Rattle.std.proofs.lemmas.List.{length_push}
use Rattle.std.proofs.lemmas.List.Folds.{list_all-append}
use Rattle.cq_position.specs.declared.men.Man.{Man}
use Rattle.cq_position.specs.declared.men.Side.{Side}
use Rattle.cq_position.specs.declared.men.Side.TheVariants.{White, Black}
use Rattle.cq_position.specs.declared.position.Rights.{Rights}
use Rattle.cq_position.specs.Board.{Board, are_home, was_passed, rights_stand, passant_stands}
use Rattle.cq_position.specs.Position.{IsPosition}
use Rattle.cq_position.specs.Fen.{fen_meaning, position_or_fault, is_within, is_digit, is_number, is_not_empty, value_of_digits, is_side, side_named, is_castling_field, has_letter, rights_kept, is_passant_field, passant_kept}
use Rattle.cq_position.specs.FenText.{side_text, castling_text, passant_text, placement_text, fen_of}
use Rattle.cq_position.proofs.Joined.{is_not, all_weaker, fields_join, left_true, right_true}
use Rattle.cq_position.proofs.RankTexts.{IsPlacementOf, placement_back}

-- the side to move
record IsSideText (text : List ℕ) (side : Side) : Type 0 where
  known : is_side text ≡ true
  named : side_named text ≡ side
  spaces : list_all (is_not 32) text ≡ true
  some : is_not_empty text ≡ true

side_back : (side : Side) → IsSideText (side_text side) side
side_back White = record { known = refl; named = refl; spaces = refl; some = refl }
side_back Black = record { known = refl; named = refl; spaces = refl; some = refl }

-- the rights to castle
record IsRightsText (text : List ℕ) (r : Rights) : Type 0 where
  castling : is_castling_field text ≡ true
  white_king : has_letter 75 text ≡ r.white_kingside
  white_queen : has_letter 81 text ≡ r.white_queenside
  black_king : has_letter 107 text ≡ r.black_kingside
  black_queen : has_letter 113 text ≡ r.black_queenside
  spaces : list_all (is_not 32) text ≡ true
  some : is_not_empty text ≡ true

abbrev rights_of : Bool → Bool → Bool → Bool → Rights
rights_of a b c d = record { white_kingside = a; white_queenside = b; black_kingside = c; black_queenside = d }

castling_back : (a b c d : Bool) → IsRightsText (castling_text (rights_of a b c d)) (rights_of a b c d)
castling_back true true true true = record { castling = refl; white_king = refl; white_queen = refl; black_king = refl; black_queen = refl; spaces = refl; some = refl }
castling_back true true true false = record { castling = refl; white_king = refl; white_queen = refl; black_king = refl; black_queen = refl; spaces = refl; some = refl }
castling_back true true false true = record { castling = refl; white_king = refl; white_queen = refl; black_king = refl; black_queen = refl; spaces = refl; some = refl }
castling_back true true false false = record { castling = refl; white_king = refl; white_queen = refl; black_king = refl; black_queen = refl; spaces = refl; some = refl }
castling_back true false true true = record { castling = refl; white_king = refl; white_queen = refl; black_king = refl; black_queen = refl; spaces = refl; some = refl }
castling_back true false true false = record { castling = refl; white_king = refl; white_queen = refl; black_king = refl; black_queen = refl; spaces = refl; some = refl }
castling_back true false false true = record { castling = refl; white_king = refl; white_queen = refl; black_king = refl; black_queen = refl; spaces = refl; some = refl }
castling_back true false false false = record { castling = refl; white_king = refl; white_queen = refl; black_king = refl; black_queen = refl; spaces = refl; some = refl }
castling_back false true true true = record { castling = refl; white_king = refl; white_queen = refl; black_king = refl; black_queen = refl; spaces = refl; some = refl }
castling_back false true true false = record { castling = refl; white_king = refl; white_queen = refl; black_king = refl; black_queen = refl; spaces = refl; some = refl }
castling_back false true false true = record { castling = refl; white_king = refl; white_queen = refl; black_king = refl; black_queen = refl; spaces = refl; some = refl }
castling_back false true false false = record { castling = refl; white_king = refl; white_queen = refl; black_king = refl; black_queen = refl; spaces = refl; some = refl }
castling_back false false true true = record { castling = refl; white_king = refl; white_queen = refl; black_king = refl; black_queen = refl; spaces = refl; some = refl }
castling_back false false true false = record { castling = refl; white_king = refl; white_queen = refl; black_king = refl; black_queen = refl; spaces = refl; some = refl }
castling_back false false false true = record { castling = refl; white_king = refl; white_queen = refl; black_king = refl; black_queen = refl; spaces = refl; some = refl }
castling_back false false false false = record { castling = refl; white_king = refl; white_queen = refl; black_king = refl; black_queen = refl; spaces = refl; some = refl }

kept : (right home : Bool) → (not right || home) ≡ true → (right && home) ≡ right
kept true home e = e
kept false home e = refl

rights_back : (men : List Man) (r : Rights) (text : List ℕ) → IsRightsText text r → rights_stand men r ≡ true → rights_kept men text ≡ r
rights_back men r text t e =
    let three = left_true _ _ e in
    let two = left_true _ _ three in
    let one : (a b : Bool) (s : Side) (k : Bool) → a ≡ b → (not b || are_home men s k) ≡ true
    → (a && are_home men s k) ≡ b = λ a b s k same stand. ap (λ x. x && are_home men s k) same ∙ kept b (are_home men s k) stand in
    let wk = one _ _ White true t.white_king (left_true _ _ two) in
    let wq = one _ _ White false t.white_queen (right_true _ _ two) in
    let bk = one _ _ Black true t.black_king (right_true _ _ three) in
    let bq = one _ _ Black false t.black_queen (right_true _ _ e) in
    λ i. record { white_kingside = wk i; white_queenside = wq i; black_kingside = bk i; black_queenside = bq i }

-- the en passant square
record IsPassantText (men : List Man) (side : Side) (text : List ℕ) (passant : Option ℕ) : Type 0 where
  known : is_passant_field text ≡ true
  named : passant_kept men side text ≡ passant
  spaces : list_all (is_not 32) text ≡ true
  some : is_not_empty text ≡ true

file_letter : (s : ℕ) → is_within 97 104 (97 + s % 8) ≡ true
file_letter s = let low : s % 8 < 8 = omega arith in grind (arith, nat_tests)

no_space : (n : ℕ) → 32 < n → is_not 32 n ≡ true
no_space n h = grind (arith, nat_tests)

passed_rank : (men : List Man) (side : Side) (s : ℕ) → was_passed men side s ≡ true → (eqb (49 + s / 8) 51 || eqb (49 + s / 8) 54) ≡ true
passed_rank men White s e = let rank : s / 8 ≡ 5 = eqb-true (s / 8) 5 (left_true _ _ (left_true _ _ (left_true _ _ e))) in rw rank refl
passed_rank men Black s e = let rank : s / 8 ≡ 2 = eqb-true (s / 8) 2 (left_true _ _ (left_true _ _ (left_true _ _ e))) in rw rank refl

passant_back : (men : List Man) (side : Side) (passant : Option ℕ) → passant_stands men side passant ≡ true → IsPassantText men side (passant_text passant) passant
passant_back men side None e = record { known = refl; named = refl; spaces = refl; some = refl }
passant_back men side (Some s) e =
    let whole : 8 * (49 + s / 8 - 49) + (97 + s % 8 - 97) ≡ s = omega arith in
    record {
      known = rw (file_letter s, passed_rank men side s e) refl;
      named = rw (whole, e) refl;
      spaces = rw (no_space (97 + s % 8) (omega arith), no_space (49 + s / 8) (omega arith)) refl;
      some = refl;
    }

-- the number of the move
record IsNumberText (n : ℕ) (text : List ℕ) : Type 0 where
  digits : list_all is_digit text ≡ true
  value : value_of_digits text ≡ n
  some : is_not_empty text ≡ true

regroup : (x p v d : ℕ) → x * (p * 10) + (v * 10 + d) ≡ (x * p + v) * 10 + d
regroup x p v d = omega arith

value-push : (ds : List ℕ) (d : ℕ) → value_of_digits (ds ++ d ∷ []) ≡ value_of_digits ds * 10 + (d - 48)
value-push [] d = omega arith
value-push (x ∷ ds) d =
    let longer : 10 ^ length (ds ++ d ∷ []) ≡ 10 ^ length ds * 10 = ap (λ n. 10 ^ n) (length_push ds d) ∙ pow_more 10 (length ds) in
    rw (longer, value-push ds d) (regroup (x - 48) (10 ^ length ds) (value_of_digits ds) (d - 48))

one_digit : (n : ℕ) → n < 10 → is_digit (48 + n) ≡ true
one_digit n low = grind (arith, nat_tests)

some_push : (ds : List ℕ) (d : ℕ) → is_not_empty (ds ++ d ∷ []) ≡ true
some_push [] d = refl
some_push (x ∷ ds) d = refl

number_back : (n : ℕ) → n < 2 ^ 64 → IsNumberText n (decimal n)
number_back = decimal_by_steps IsNumberText
    (λ n low. record { digits = rw (one_digit n low) refl; value = omega arith; some = refl })
    (λ n ds high t.
    let low : n % 10 < 10 = omega arith in
    let back : n / 10 * 10 + (48 + n % 10 - 48) ≡ n = omega arith in
    record {
      digits = rw (list_all-append is_digit ds ((48 + n % 10) ∷ []), t.digits, one_digit (n % 10) low) refl;
      value = rw (value-push ds (48 + n % 10), t.value) back;
      some = some_push ds (48 + n % 10);
    })

digit_no_space : (b : ℕ) → is_digit b ≡ true → is_not 32 b ≡ true
digit_no_space b e = grind (arith, nat_tests)

short_text : (a : ℕ) → a ≤ 9 → nat_le a 9 ≡ true
short_text a le = grind (arith, nat_tests)

nine_digits : (n : ℕ) → n ≤ 999999999 → IsNumberText n (decimal n) → is_number (decimal n) ≡ true
nine_digits n le t =
    let short = length-decimal-le 9 n (lit< tt) (omega arith) (omega arith) in
    rw (t.some, short_text (length (decimal n)) short, t.digits) refl

at_least_one : (n : ℕ) → 0 < n → max 1 n ≡ n
at_least_one n h = omega arith

-- six texts that say what a position has
meaning_back : (b : Board) (t s c e n : List ℕ) → IsPosition b → IsPlacementOf t b.men → IsSideText s b.side → IsRightsText c b.rights
    → IsPassantText b.men b.side e b.passant → IsNumberText b.number n → is_number n ≡ true
    → fen_meaning (join_with_byte 32 (t ∷ s ∷ c ∷ e ∷ (48 ∷ []) ∷ n ∷ [])) ≡ Ok b
unfolding fen_meaning position_or_fault
meaning_back b t s c e n p placement side rights passant number nine =
    let free = all_weaker is_digit (is_not 32) digit_no_space n number.digits in
    let cut = fields_join t (s ∷ c ∷ e ∷ (48 ∷ []) ∷ n ∷ []) (rw (placement.spaces, side.spaces, rights.spaces, passant.spaces, free) refl)
    (rw (placement.some, side.some, rights.some, passant.some, number.some) refl) in
    let same = rights_back b.men b.rights c rights p.rights in
    rw cut (rw (
      placement.placed,
      side.known,
      rights.castling,
      passant.known,
      nine,
      placement.men_are,
      side.named,
      p.kings,
      p.no_pawn_on_edge,
      p.few_enough,
      p.opponent_not_in_check,
      same,
      passant.named,
      number.value,
      at_least_one b.number p.numbered,
    ) refl)

pub reads_back : (b : Board) → IsPosition b → b.number ≤ 999999999 → fen_meaning (fen_of b) ≡ Ok b
unfolding fen_of
reads_back b p le =
    let number = number_back b.number (omega arith) in
    meaning_back b (placement_text b.men) (side_text b.side) (castling_text b.rights) (passant_text b.passant) (decimal b.number) p (placement_back b.men p.whole) (side_back b.side)
    (castling_back b.rights.white_kingside b.rights.white_queenside b.rights.black_kingside b.rights.black_queenside)
    (passant_back b.men b.side b.passant p.passed) number (nine_digits b.number le number)
