-- Sets of squares as numbers.
use Rattle.std.proofs.Common.{◌≡◌, ℕ, zero, suc, add-one, ◌+◌, ◌-◌, ◌*◌, ◌%◌, ◌^◌, ◌<◌, Bool, true, false, ◌||◌, refl, sym, ap, ◌∙◌, arith, inl, inr, max, eqb}
use Rattle.std.specs.Prelude.{bit_or}
use Rattle.std.specs.List.{list_any, range_with_len}
use Rattle.std.specs.Int.{bit_at, w64}
use Rattle.std.proofs.Math.Bool.{or-false, or_assoc}
use Rattle.std.proofs.Math.Facts.{Fits-lt-pow, Fits-of_lt, Fits-or}
use Rattle.std.proofs.Math.Nat.{one-mul, mod-eq_of_lt}
use Rattle.std.proofs.lemmas.Bool.{cases_lt, cases_eq}
use Rattle.std.proofs.lemmas.Bool.Decides.{nat_tests}
use Rattle.std.proofs.lemmas.Nat.{pow_below}
use Rattle.std.proofs.lemmas.Nat.Bits.{bit_at-zero, bit_at_or, bit_at_cat_low, bit_at_cat_high, bit_at-pow_same, bit_at-pow_other, same_from_bits_below}
use Rattle.cq_symmetry.specs.Images.{bit, mask_below, mask_of}

at_most : (b : Bool) (p low whole : ℕ) → low < p → whole ≡ 2 * p → bit b * p + low < whole
at_most true p low whole h e = omega arith
at_most false p low whole h e = omega arith

lowest : (b : Bool) → bit_at (bit b) 0 ≡ bit b
lowest true = refl
lowest false = refl

fits : (test : ℕ → Bool) (n : ℕ) → mask_below test n < 2 ^ n
fits test zero = omega arith
fits test (suc n) =
    let low = fits test n in
    let double : 2 ^ suc n ≡ 2 * 2 ^ n = omega arith in
    (at_most (test n) (2 ^ n) (mask_below test n) (2 ^ suc n) low double)

bits : (test : ℕ → Bool) (n i : ℕ) → i < n → bit_at (mask_below test n) i ≡ bit (test i)
bits test zero i lt = absurd (omega arith)
bits test (suc n) i lt = (elim (cases_lt i n) [
  | inl low ↦ bit_at_cat_low (bit (test n)) n (mask_below test n) i low ∙ bits test n i low
  | inr high ↦
      let same : i ≡ n = omega arith in
      let none : i - n ≡ 0 = omega arith in
      bit_at_cat_high (bit (test n)) n (mask_below test n) i (fits test n) high ∙ ap (bit_at (bit (test n))) none ∙ lowest (test n) ∙ ap (λ j. bit (test j)) (sym same)
])

-- a number with the bits of a test
pub is_mask : (mask : ℕ) (test : ℕ → Bool) → mask < 2 ^ 64 → ((s : ℕ) → s < 64 → bit_at mask s ≡ bit (test s)) → mask ≡ mask_of test
unfolding mask_of
is_mask mask test small has = same_from_bits_below 64 mask (mask_below test 64) small (fits test 64) (λ s low. has s low ∙ sym (bits test 64 s low))

pub mask_fits : (test : ℕ → Bool) → mask_of test < 2 ^ 64
unfolding mask_of
mask_fits test = fits test 64

pub mask_bit : (test : ℕ → Bool) (s : ℕ) → s < 64 → bit_at (mask_of test) s ≡ bit (test s)
unfolding mask_of
mask_bit test s low = bits test 64 s low

-- the same squares
pub same_mask : (t u : ℕ → Bool) → ((s : ℕ) → s < 64 → t s ≡ u s) → mask_of t ≡ mask_of u
same_mask t u same = is_mask (mask_of t) u (mask_fits t) (λ s low. mask_bit t s low ∙ ap bit (same s low))

-- no square
pub no_mask : (t : ℕ → Bool) → ((s : ℕ) → s < 64 → t s ≡ false) → 0 ≡ mask_of t
no_mask t none = is_mask 0 t (omega arith) (λ s low. bit_at-zero s ∙ ap bit (sym (none s low)))

-- one square
one_bit : (s n : ℕ) → bit_at (2 ^ s) n ≡ bit (eqb s n)
one_bit s n = elim (cases_eq n s) [
  | inl same ↦ let e : eqb s n ≡ true = grind (arith, nat_tests) in rw (e, same) (bit_at-pow_same s)
  | inr other ↦ let e : eqb s n ≡ false = grind (arith, nat_tests) in rw e (bit_at-pow_other s n other)
]

pub one_mask : (s : ℕ) → s < 64 → 1 * 2 ^ s % 18446744073709551616 ≡ mask_of (λ n. eqb s n)
one_mask s low =
    let small : 2 ^ s < 2 ^ 64 = pow_below s 64 low in
    rw (one-mul, mod-eq_of_lt small) (is_mask (2 ^ s) (λ n. eqb s n) small (λ n below. one_bit s n))

-- the squares of one or the other
max_of : (a b : Bool) → max (bit a) (bit b) ≡ bit (a || b)
max_of true true = refl
max_of true false = refl
max_of false true = refl
max_of false false = refl

or_bits : (m n : ℕ) (a b : Bool) (s : ℕ) → bit_at m s ≡ bit a → bit_at n s ≡ bit b → bit_at (bit_or m n) s ≡ bit (a || b)
or_bits m n a b s e f = rw (bit_at_or m n s, e, f) (max_of a b)

pub or_mask : (t u : ℕ → Bool) → bit_or (mask_of t) (mask_of u) < 2 ^ 64 → bit_or (mask_of t) (mask_of u) ≡ mask_of (λ s. t s || u s)
or_mask t u small = is_mask (bit_or (mask_of t) (mask_of u)) (λ s. t s || u s) small (λ s low. or_bits (mask_of t) (mask_of u) (t s) (u s) s (mask_bit t s low) (mask_bit u s low))

pub or_masks : (m n : ℕ) (t u : ℕ → Bool) → m ≡ mask_of t → n ≡ mask_of u → bit_or m n < 2 ^ 64 → bit_or m n ≡ mask_of (λ s. t s || u s)
or_masks m n t u e f small = let both = small in rw (e, f) (or_mask t u (rw (← e, ← f) both))

pub or_fits : (m n : ℕ) → m < 2 ^ 64 → n < 2 ^ 64 → bit_or m n < 2 ^ 64
or_fits m n h k = Fits-lt-pow {w = w64} (Fits-or (Fits-of_lt {w = w64} h) (Fits-of_lt {w = w64} k))

-- one number more
any_last_from : (p : ℕ → Bool) (a n : ℕ) → list_any p (range_with_len a (suc n)) ≡ (list_any p (range_with_len a n) || p (a + n))
any_last_from p a zero = let e : a + 0 ≡ a = omega arith in rw e (or-false (p a))
any_last_from p a (suc n) =
    let e : a + 1 + n ≡ a + suc n = omega arith in
    ap (λ b. p a || b) (any_last_from p (a + 1) n) ∙ sym (or_assoc (p a) (list_any p (range_with_len (a + 1) n)) (p (a + 1 + n))) ∙ ap (λ j. (p a || list_any p (range_with_len (a + 1) n)) || p j) e

pub any_last : (p : ℕ → Bool) (n : ℕ) → list_any p (range_with_len 0 (n + 1)) ≡ (list_any p (range_with_len 0 n) || p n)
any_last p n = let e : 0 + n ≡ n = omega arith in rw (add-one) (any_last_from p 0 n ∙ ap (λ j. list_any p (range_with_len 0 n) || p j) e)
