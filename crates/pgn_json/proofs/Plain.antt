-- Texts of characters that need no escape in a string.
use Rattle.std.proofs.Common.{◌≡◌, ℕ, zero, suc, ◌+◌, ◌/◌, ◌%◌, ◌^◌, ◌<◌, ◌≤◌, ◌&&◌, ◌||◌, not, nat_lt, Bool, true, false, List, [], ◌∷◌, ◌++◌, length, take, drop, Option, Some, None, refl, ap, ap₂, ◌∙◌, sym, arith}
use Rattle.std.proofs.lemmas.Bool.{eqb-true, ltb-true, lt-ltb, le-ltb, ne_eqb}
use Rattle.std.proofs.lemmas.Fmt.{decimal_by_steps}
use Rattle.std.proofs.lemmas.List.{length-take}
use Rattle.std.proofs.lemmas.List.Folds.{list_all-append}
use Rattle.std.proofs.lemmas.Str.{encode_ascii}
use Rattle.std.specs.List.{flat_map, list_all}
use Rattle.std.specs.Prelude.{if◌then◌else◌, decimal}
use lib.Utf8.{encode, encodes, low_scalar, scalars}
use Rattle.cq_position.proofs.Joined.{all_join, left_true, right_true}
use Rattle.cq_position.specs.Board.{Board, was_passed, passant_stands}
use Rattle.cq_position.specs.FenText.{run_text, letter_text, run_after, rank_text, rank_texts, placement_text, side_text, right_text, castling_text, passant_text, fen_of}
use Rattle.cq_position.specs.Men.{letter_of_man}
use Rattle.cq_position.specs.Position.{IsPosition}
use Rattle.cq_position.specs.declared.men.Man.{Man}
use Rattle.cq_position.specs.declared.men.Man.TheVariants.{K, Q, R, B, N, P, BlackK, BlackQ, BlackR, BlackB, BlackN, BlackP, Empty}
use Rattle.cq_position.specs.declared.men.Side.{Side}
use Rattle.cq_position.specs.declared.men.Side.TheVariants.{White, Black}
use Rattle.cq_position.specs.declared.position.Rights.{Rights}
use Rattle.pgn_json.specs.Strings.{character_text, escape, needs_escape, quoted}
use Rattle.pgn_json.specs.Values.{plain}

-- ASCII that needs no escape
abbrev pub is_plain : ℕ → Bool
is_plain c = nat_lt c 128 && not (needs_escape c)

abbrev pub IsPlain : List ℕ → Type 0
IsPlain text = list_all is_plain text ≡ true

not_true : (b : Bool) → not b ≡ true → b ≡ false
not_true true e = sym e
not_true false e = refl

one_written : (c : ℕ) → is_plain c ≡ true → character_text c ≡ c ∷ []
one_written c is =
    ap (λ b. if b then escape c else encode c) (not_true (needs_escape c) (right_true (nat_lt c 128) _ is))
    ∙ encode_ascii c (ltb-true c 128 (left_true (nat_lt c 128) _ is))

all_written : (text : List ℕ) → IsPlain text → flat_map character_text text ≡ text
all_written [] is = refl
all_written (c ∷ text) is =
    ap₂ (λ (x y : List ℕ). x ++ y) (one_written c (left_true (is_plain c) _ is)) (all_written text (right_true (is_plain c) _ is))

-- it is written as any string is
pub plain_string : (text : List ℕ) → IsPlain text → quoted text ≡ plain text
plain_string text is = ap (λ l. 34 ∷ l ++ 34 ∷ []) (all_written text is)

-- its bytes are its characters
pub plain_encoded : (text : List ℕ) → IsPlain text → encodes text ≡ text
plain_encoded [] is = refl
plain_encoded (c ∷ text) is =
    let low = ltb-true c 128 (left_true (nat_lt c 128) _ (left_true (is_plain c) _ is)) in
    ap₂ (λ (x y : List ℕ). x ++ y) (encode_ascii c low) (plain_encoded text (right_true (is_plain c) _ is))

-- and it is of Unicode scalar values
pub plain_legal : (text : List ℕ) → IsPlain text → scalars text ≡ true
plain_legal [] is = refl
plain_legal (c ∷ text) is =
    let low = ltb-true c 128 (left_true (nat_lt c 128) _ (left_true (is_plain c) _ is)) in
    rw (low_scalar c (omega (arith, low)), plain_legal text (right_true (is_plain c) _ is)) refl

pub low_plain : (c : ℕ) → 35 ≤ c → c < 92 → is_plain c ≡ true
low_plain c low high =
    rw (lt-ltb c 128 (omega (arith, high)), le-ltb c 32 (omega (arith, low)), ne_eqb c 34 (λ e. omega (arith, low, e)), ne_eqb c 92 (λ e. omega (arith, high, e))) refl

pub high_plain : (c : ℕ) → 93 ≤ c → c < 128 → is_plain c ≡ true
high_plain c low high =
    rw (lt-ltb c 128 high, le-ltb c 32 (omega (arith, low)), ne_eqb c 34 (λ e. omega (arith, low, e)), ne_eqb c 92 (λ e. omega (arith, low, e))) refl

pub both_plain : (x y : List ℕ) → IsPlain x → IsPlain y → IsPlain (x ++ y)
both_plain x y a b = rw (list_all-append is_plain x y, a, b) refl

pub either_plain : (b : Bool) (x y : List ℕ) → IsPlain x → IsPlain y → IsPlain (if b then x else y)
either_plain true x y a b = a
either_plain false x y a b = b

pub letter_plain : (c : ℕ) → is_plain c ≡ true → IsPlain (c ∷ [])
letter_plain c is = rw is refl

pub decimal_plain : (n : ℕ) → n < 2 ^ 64 → IsPlain (decimal n)
decimal_plain = decimal_by_steps (λ n text. IsPlain text)
    (λ n low. letter_plain (48 + n) (low_plain (48 + n) (omega arith) (omega (arith, low))))
    (λ n text high is. both_plain text ((48 + n % 10) ∷ []) is (letter_plain (48 + n % 10) (low_plain (48 + n % 10) (omega arith) (omega arith))))

-- the fields of the text of a position
run_plain : (n : ℕ) → n ≤ 8 → IsPlain (run_text n)
run_plain zero low = refl
run_plain (suc n) low = letter_plain (49 + n) (low_plain (49 + n) (omega arith) (omega (arith, low)))

abbrev is_plain_man : Option ℕ → Bool
is_plain_man None = true
is_plain_man (Some letter) = is_plain letter

man_plain : (man : Man) → is_plain_man (letter_of_man man) ≡ true
man_plain K = refl
man_plain Q = refl
man_plain R = refl
man_plain B = refl
man_plain N = refl
man_plain P = refl
man_plain BlackK = refl
man_plain BlackQ = refl
man_plain BlackR = refl
man_plain BlackB = refl
man_plain BlackN = refl
man_plain BlackP = refl
man_plain Empty = refl

after_run : (empty : ℕ) (letter : Option ℕ) → empty ≤ 8 → is_plain_man letter ≡ true → IsPlain (letter_text empty letter)
after_run empty None low is = refl
after_run empty (Some letter) low is = both_plain (run_text empty) (letter ∷ []) (run_plain empty low) (letter_plain letter is)

still_low : (empty k : ℕ) (letter : Option ℕ) → empty + suc k ≤ 8 → run_after empty letter + k ≤ 8
still_low empty k None low = omega (arith, low)
still_low empty k (Some letter) low = omega (arith, low)

rank_plain : (men : List Man) (empty : ℕ) → empty + length men ≤ 8 → IsPlain (rank_text empty men)
rank_plain [] empty low = run_plain empty (omega (arith, low))
rank_plain (man ∷ men) empty low =
    both_plain (letter_text empty (letter_of_man man)) (rank_text (run_after empty (letter_of_man man)) men)
    (after_run empty (letter_of_man man) (omega (arith, low)) (man_plain man))
    (rank_plain men (run_after empty (letter_of_man man)) (still_low empty (length men) (letter_of_man man) low))

eight_plain : (men : List Man) → IsPlain (rank_text 0 (take 8 men))
eight_plain men = rank_plain (take 8 men) 0 (omega (arith, length-take 8 men))

placement_plain : (men : List Man) → IsPlain (placement_text men)
placement_plain men =
    all_join is_plain 47 (rank_texts men) refl
    (rw (eight_plain (drop 56 men), eight_plain (drop 48 men), eight_plain (drop 40 men), eight_plain (drop 32 men), eight_plain (drop 24 men), eight_plain (drop 16 men), eight_plain (drop 8 men), eight_plain (drop 0 men)) refl)

side_plain : (side : Side) → IsPlain (side_text side)
side_plain White = refl
side_plain Black = refl

right_plain : (b : Bool) (c : ℕ) → is_plain c ≡ true → IsPlain (if b then c ∷ [] else [])
right_plain b c is = either_plain b (c ∷ []) [] (letter_plain c is) refl

castling_plain : (r : Rights) → IsPlain (castling_text r)
castling_plain r =
    let a = right_text r White true in
    let b = right_text r White false in
    let c = right_text r Black true in
    let d = right_text r Black false in
    either_plain (r.white_kingside || r.white_queenside || r.black_kingside || r.black_queenside) (a ++ b ++ c ++ d) (45 ∷ [])
    (both_plain (a ++ b ++ c) d
    (both_plain (a ++ b) c (both_plain a b (right_plain r.white_kingside 75 refl) (right_plain r.white_queenside 81 refl)) (right_plain r.black_kingside 107 refl))
    (right_plain r.black_queenside 113 refl))
    refl

passed_low : (men : List Man) (side : Side) (s : ℕ) → was_passed men side s ≡ true → s / 8 < 8
passed_low men White s e = let rank : s / 8 ≡ 5 = eqb-true (s / 8) 5 (left_true _ _ (left_true _ _ (left_true _ _ e))) in omega (arith, rank)
passed_low men Black s e = let rank : s / 8 ≡ 2 = eqb-true (s / 8) 2 (left_true _ _ (left_true _ _ (left_true _ _ e))) in omega (arith, rank)

-- the letter of a file and the digit of a rank
pub square_plain : (s : ℕ) → s / 8 < 8 → IsPlain ((97 + s % 8) ∷ (49 + s / 8) ∷ [])
square_plain s low =
    both_plain ((97 + s % 8) ∷ []) ((49 + s / 8) ∷ [])
    (letter_plain (97 + s % 8) (high_plain (97 + s % 8) (omega arith) (omega arith)))
    (letter_plain (49 + s / 8) (low_plain (49 + s / 8) (omega arith) (omega (arith, low))))

passant_plain : (men : List Man) (side : Side) (passant : Option ℕ) → passant_stands men side passant ≡ true → IsPlain (passant_text passant)
passant_plain men side None stands = refl
passant_plain men side (Some s) stands = square_plain s (passed_low men side s stands)

pub fen_plain : (b : Board) → IsPosition b → IsPlain (fen_of b)
unfolding fen_of
fen_plain b is =
    all_join is_plain 32
    (placement_text b.men ∷ side_text b.side ∷ castling_text b.rights ∷ passant_text b.passant ∷ (48 ∷ []) ∷ decimal b.number ∷ []) refl
    (rw (placement_plain b.men, side_plain b.side, castling_plain b.rights, passant_plain b.men b.side b.passant is.passed, decimal_plain b.number (omega (arith, is.fits))) refl)
