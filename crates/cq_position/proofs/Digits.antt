-- Words with one bit changed.
use Rattle.std.proofs.Common.{◌≡◌, ◌≢◌, ℕ, zero, suc, ◌+◌, ◌-◌, ◌*◌, ◌%◌, ◌^◌, ◌<◌, not, ◌==◌, ◌&&◌, ◌||◌, refl, sym, ap, ◌∙◌, arith}
use Rattle.std.specs.Prelude.{bit_or, bit_and, nat_lt, nat_le}
use Rattle.std.specs.Int.{bit_at, bit_not, w64}
use Rattle.std.proofs.lemmas.Nat.Bits.{bit_at-lt, bit_at_not, bit_at_set_same, bit_at_set_other, bit_at_clear_same, bit_at_clear_other}
use Rattle.cq_square_sets.specs.Bitboards.{IsBitboard, bit_of}
use Rattle.std.proofs.lemmas.Bool.Decides.{nat_tests}
use Rattle.std.proofs.lemmas.Nat.{or_lt, and_le_l}
use Rattle.cq_position.specs.declared.men.Man.{Man}
use Rattle.cq_position.specs.declared.men.Man.TheVariants.{K, Q, R, B, N, P, BlackK, BlackQ, BlackR, BlackB, BlackN, BlackP, Empty}
use Rattle.cq_position.specs.declared.men.Side.TheVariants.{White, Black}
use Rattle.cq_position.specs.Men.{man_number, is_of_side}
use Rattle.cq_position.specs.Board.{man_at, stands}
use Rattle.cq_square_sets.specs.Planes.{IsWith, AreWords, number_at, list_of}
use Rattle.cq_square_sets.proofs.Words.{list_at}
use Rattle.cq_square_sets.proofs.Marked.{marks_same, marks_or, marks_and, marks_not}
use Rattle.cq_position.specs.Planes.{man_numbered}
use Rattle.cq_position.specs.Inside.{numbered}

pub set_is : (word s bit : ℕ) → s < 64 → bit ≡ 1 → bit_or word (1 * 2 ^ s % 2 ^ 64) < 2 ^ 64 → IsWith word s bit (bit_or word (1 * 2 ^ s % 2 ^ 64))
set_is word s bit low one fits = record { fits = fits; there = bit_at_set_same w64 word s low ∙ sym one; others = λ k lt other. bit_at_set_other w64 word s low k other }

pub clear_is : (word s bit : ℕ) → s < 64 → bit < 2 → bit ≢ 1 → bit_and word (bit_not w64 (1 * 2 ^ s % 2 ^ 64)) < 2 ^ 64
    → IsWith word s bit (bit_and word (bit_not w64 (1 * 2 ^ s % 2 ^ 64)))
clear_is word s bit low two other_bit fits = record {
  fits = fits;
  there = let z : bit ≡ 0 = omega (arith, other_bit) in bit_at_clear_same w64 word s low ∙ sym z;
  others = λ k lt other. bit_at_clear_other w64 word s low k lt other;
}

of_bit : (b : ℕ) → b < 2 → b ≡ bit_of (b == 1)
of_bit zero h = refl
of_bit (suc zero) h = refl
of_bit (suc (suc b)) h = absurd (omega arith)

of_other : (b : ℕ) → b < 2 → 1 - b ≡ bit_of (b == 0)
of_other zero h = refl
of_other (suc zero) h = refl
of_other (suc (suc b)) h = absurd (omega arith)

pub like_one : (word bit : ℕ) → bit ≡ 1 → IsBitboard word (λ k. bit_at word k == bit)
like_one word bit one = record { bit = λ k h. rw one (of_bit (bit_at word k) (bit_at-lt word k)) }

pub like_none : (word bit : ℕ) → word < 2 ^ 64 → bit < 2 → bit ≢ 1 → IsBitboard (bit_not w64 word) (λ k. bit_at word k == bit)
like_none word bit fits two other_bit = record {
  bit = λ k h. let z : bit ≡ 0 = omega (arith, other_bit) in rw z (bit_at_not w64 word k fits h ∙ of_other (bit_at word k) (bit_at-lt word k));
}

-- the bits of a man's number
pub digits : (n : ℕ) → n < 13 → bit_at n 0 + 2 * bit_at n 1 + 4 * bit_at n 2 + 8 * bit_at n 3 ≡ n
digits n h = omega arith

pub man_back : (m : Man) → man_numbered (man_number m) ≡ m
man_back K = refl
man_back Q = refl
man_back R = refl
man_back B = refl
man_back N = refl
man_back P = refl
man_back BlackK = refl
man_back BlackQ = refl
man_back BlackR = refl
man_back BlackB = refl
man_back BlackN = refl
man_back BlackP = refl
man_back Empty = refl

pub few_men : (m : Man) → man_number m < 13
few_men K = omega arith
few_men Q = omega arith
few_men R = omega arith
few_men B = omega arith
few_men N = omega arith
few_men P = omega arith
few_men BlackK = omega arith
few_men BlackQ = omega arith
few_men BlackR = omega arith
few_men BlackB = omega arith
few_men BlackN = omega arith
few_men BlackP = omega arith
few_men Empty = omega arith

tests_join : (a b c d e f g h : ℕ) → a < 2 → b < 2 → c < 2 → d < 2 → e < 2 → f < 2 → g < 2 → h < 2
    → ((((a == e) && (b == f)) && (c == g)) && (d == h)) ≡ ((a + 2 * b + 4 * c + 8 * d) == (e + 2 * f + 4 * g + 8 * h))
tests_join a b c d e f g h i j k l m n o p = grind (arith, nat_tests)

number_split : (a b c d s number : ℕ) → number < 13
    → ((((bit_at a s == bit_at number 0) && (bit_at b s == bit_at number 1)) && (bit_at c s == bit_at number 2)) && (bit_at d s == bit_at number 3))
    ≡ (number_at a b c d s == number)
number_split a b c d s number low =
    tests_join (bit_at a s) (bit_at b s) (bit_at c s) (bit_at d s) (bit_at number 0) (bit_at number 1) (bit_at number 2) (bit_at number 3)
    (bit_at-lt a s) (bit_at-lt b s) (bit_at-lt c s) (bit_at-lt d s) (bit_at-lt number 0) (bit_at-lt number 1) (bit_at-lt number 2) (bit_at-lt number 3)
    ∙ ap (λ n. number_at a b c d s == n) (digits number low)

-- the squares of a man
pub squares_found : (a b c d w x y z : ℕ) (man : Man) → AreWords 13 a b c d
    → IsBitboard w (λ k. bit_at a k == bit_at (man_number man) 0) → IsBitboard x (λ k. bit_at b k == bit_at (man_number man) 1)
    → IsBitboard y (λ k. bit_at c k == bit_at (man_number man) 2) → IsBitboard z (λ k. bit_at d k == bit_at (man_number man) 3)
    → IsBitboard (bit_and (bit_and (bit_and w x) y) z) (λ k. stands (list_of man_numbered a b c d) k man)
squares_found a b c d w x y z man words f g h m = record {
  bit = λ k low.
      (marks_and _ _ _ _ (marks_and _ _ _ _ (marks_and _ _ _ _ f g) h) m).bit k low
      ∙ ap bit_of (number_split a b c d k (man_number man) (few_men man))
      ∙ ap (λ n. bit_of (n == man_number man)) (sym (numbered (number_at a b c d k) (words.numbers k low)))
      ∙ ap (λ n. bit_of (man_number n == man_number man)) (sym (list_at man_numbered Empty a b c d k low));
}

pub digits_of : (man : Man) (i j k l : ℕ) → i ≡ bit_at (man_number man) 0 → j ≡ bit_at (man_number man) 1 → k ≡ bit_at (man_number man) 2 → l ≡ bit_at (man_number man) 3
    → man_numbered (i + 2 * j + 4 * k + 8 * l) ≡ man
digits_of man i j k l e f g h = rw (e, f, g, h) (ap man_numbered (digits (man_number man) (few_men man)) ∙ man_back man)

pub digits_below : (man : Man) (i j k l : ℕ) → i ≡ bit_at (man_number man) 0 → j ≡ bit_at (man_number man) 1 → k ≡ bit_at (man_number man) 2 → l ≡ bit_at (man_number man) 3
    → i + 2 * j + 4 * k + 8 * l < 13
digits_below man i j k l e f g h = rw (e, f, g, h, digits (man_number man) (few_men man)) (few_men man)

pub set_fits : (word s : ℕ) → word < 2 ^ 64 → bit_or word (1 * 2 ^ s % 2 ^ 64) < 2 ^ 64
set_fits word s h = or_lt 64 word (1 * 2 ^ s % 2 ^ 64) h (omega arith)

pub clear_fits : (word s : ℕ) → word < 2 ^ 64 → bit_and word (bit_not w64 (1 * 2 ^ s % 2 ^ 64)) < 2 ^ 64
clear_fits word s h = let l = and_le_l word (bit_not w64 (1 * 2 ^ s % 2 ^ 64)) in omega arith

-- the men of a side
white_digits : (a b c d : ℕ) → a < 2 → b < 2 → c < 2 → d < 2 → not ((d == 1) || ((c == 1) && (b == 1))) ≡ nat_lt (a + 2 * b + 4 * c + 8 * d) 6
white_digits a b c d i j k l = grind (arith, nat_tests)

black_digits : (a b c d : ℕ) → a < 2 → b < 2 → c < 2 → d < 2 → a + 2 * b + 4 * c + 8 * d < 13
    → (((c == 1) && (b == 1)) || ((d == 1) && not (c == 1))) ≡ (nat_le 6 (a + 2 * b + 4 * c + 8 * d) && nat_lt (a + 2 * b + 4 * c + 8 * d) 12)
black_digits a b c d i j k l m = grind (arith, nat_tests)

of_man : (a b c d k : ℕ) → AreWords 13 a b c d → k < 64 → number_at a b c d k ≡ man_number (man_at (list_of man_numbered a b c d) k)
of_man a b c d k words low = sym (numbered (number_at a b c d k) (words.numbers k low)) ∙ ap man_number (sym (list_at man_numbered Empty a b c d k low))

pub white_found : (a b c d : ℕ) → AreWords 13 a b c d
    → IsBitboard (bit_not w64 (bit_or d (bit_and c b))) (λ k. is_of_side White (man_at (list_of man_numbered a b c d) k))
white_found a b c d words =
    let fits : bit_or d (bit_and c b) < 2 ^ 64 = or_lt 64 d (bit_and c b) words.eights (let l = and_le_l c b in let f = words.fours in omega arith) in
    marks_same _ _ _
    (λ k low. white_digits (bit_at a k) (bit_at b k) (bit_at c k) (bit_at d k) (bit_at-lt a k) (bit_at-lt b k) (bit_at-lt c k) (bit_at-lt d k)
    ∙ ap (λ n. nat_lt n 6) (of_man a b c d k words low))
    (marks_not _ _ fits (marks_or _ _ _ _ (like_one d 1 refl) (marks_and _ _ _ _ (like_one c 1 refl) (like_one b 1 refl))))

pub black_found : (a b c d : ℕ) → AreWords 13 a b c d
    → IsBitboard (bit_or (bit_and c b) (bit_and d (bit_not w64 c))) (λ k. is_of_side Black (man_at (list_of man_numbered a b c d) k))
black_found a b c d words =
    marks_same _ _ _
    (λ k low. black_digits (bit_at a k) (bit_at b k) (bit_at c k) (bit_at d k) (bit_at-lt a k) (bit_at-lt b k) (bit_at-lt c k) (bit_at-lt d k) (words.numbers k low)
    ∙ ap (λ n. nat_le 6 n && nat_lt n 12) (of_man a b c d k words low))
    (marks_or _ _ _ _ (marks_and _ _ _ _ (like_one c 1 refl) (like_one b 1 refl)) (marks_and _ _ _ _ (like_one d 1 refl) (marks_not _ _ words.fours (like_one c 1 refl))))
