-- The squares of the union, of the intersection, and of a shifted set.
use Rattle.std.proofs.Common.{◌≡◌, ℕ, zero, suc, ◌+◌, ◌-◌, ◌*◌, ◌/◌, ◌%◌, ◌^◌, ◌<◌, ◌≤◌, ◌⊎◌, inl, inr, ⊎_elim, refl, sym, ap, ◌∙◌, arith, div-add-mod'}
use Rattle.std.specs.Prelude.{bit_or, bit_and}
use Rattle.std.specs.Int.{bit_at}
use Rattle.std.proofs.lemmas.Nat.Bits.{bit_at_and, bit_at_or, bit_at-lt, bit_at_cat_low, bit_at_cat_high, bit_at-zero}
use Rattle.std.proofs.lemmas.Nat.{pow_pos, pow-add}
use Rattle.std.proofs.Math.Nat.{div-div-eq-div-mul}
use Rattle.cq_square_sets.specs.Sets.{Has}

-- a bit is 0 or 1
pub bit_cases : (n i : ℕ) → (bit_at n i ≡ 0) ⊎ (bit_at n i ≡ 1)
bit_cases n i = by_value (bit_at n i) (bit_at-lt n i)
  where
    by_value : (b : ℕ) → b < 2 → (b ≡ 0) ⊎ (b ≡ 1)
    by_value zero below = inl refl
    by_value (suc zero) below = inr refl
    by_value (suc (suc b)) below = absurd (omega arith)

pub in_either : (a b i : ℕ) → Has (bit_or a b) i → Has a i ⊎ Has b i
in_either a b i h =
    let o = bit_at_or a b i in
    ⊎_elim (λ no. ⊎_elim (λ none. absurd (let m = o in let x = h in omega arith)) (λ yes. inr yes) (bit_cases b i)) (λ yes. inl yes) (bit_cases a i)

pub from_first : (a b i : ℕ) → Has a i → Has (bit_or a b) i
from_first a b i h = let o = bit_at_or a b i in let l = bit_at-lt b i in omega arith

pub from_second : (a b i : ℕ) → Has b i → Has (bit_or a b) i
from_second a b i h = let o = bit_at_or a b i in let l = bit_at-lt a i in omega arith

pub in_both : (a b i : ℕ) → Has (bit_and a b) i → Has a i × Has b i
in_both a b i h = let o = bit_at_and a b i in let l = bit_at-lt a i in let m = bit_at-lt b i in (omega arith, omega arith)

pub both_have : (a b i : ℕ) → Has a i → Has b i → Has (bit_and a b) i
both_have a b i h k = let o = bit_at_and a b i in omega arith

pub nothing_there : (i : ℕ) → Has 0 i → ⊥
nothing_there i h = let z = bit_at-zero i in omega arith

-- bits cut off above don't change the bits below
low_bits : (n w i : ℕ) → i < w → bit_at (n % 2 ^ w) i ≡ bit_at n i
low_bits n w i below = sym (bit_at_cat_low (n / 2 ^ w) w (n % 2 ^ w) i below) ∙ ap (λ m. bit_at m i) (div-add-mod' n (2 ^ w))

pub shifted_up : (n by i : ℕ) → i < 64 → by ≤ i → bit_at (n * 2 ^ by % 2 ^ 64) i ≡ bit_at n (i - by)
shifted_up n by i below reached =
    low_bits (n * 2 ^ by) 64 i below ∙ ap (λ m. bit_at m i) (sum_with_none (n * 2 ^ by)) ∙ bit_at_cat_high n by 0 i (pow_pos by) reached
  where
    sum_with_none : (m : ℕ) → m ≡ m + 0
    sum_with_none m = omega arith

pub not_shifted_up : (n by i : ℕ) → i < 64 → i < by → bit_at (n * 2 ^ by % 2 ^ 64) i ≡ 0
not_shifted_up n by i below above =
    low_bits (n * 2 ^ by) 64 i below ∙ ap (λ m. bit_at m i) (sum_with_none (n * 2 ^ by)) ∙ bit_at_cat_low n by 0 i above ∙ bit_at-zero i
  where
    sum_with_none : (m : ℕ) → m ≡ m + 0
    sum_with_none m = omega arith

pub shifted_down : (n by i : ℕ) → bit_at (n / 2 ^ by) i ≡ bit_at n (by + i)
shifted_down n by i = ap (λ m. m % 2) (div-div-eq-div-mul n (2 ^ by) (2 ^ i) ∙ ap (λ p. n / p) (sym (pow-add 2 by i)))
