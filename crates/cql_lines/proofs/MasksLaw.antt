-- Places before the first of a mask, and past its last, change nothing.
use Rattle.std.proofs.Common.{◌≡◌, ℕ, zero, suc, ◌+◌, ◌-◌, ◌<◌, ◌≤◌, ◌^◌, false, refl, sym, ap, ◌∙◌, arith, inl, inr}
use Rattle.std.specs.Prelude.{◌==◌, min}
use Rattle.std.proofs.Math.Nat.{min-le_left, le-min}
use Rattle.std.specs.Int.{trailing_zeros, leading_zeros, w64}
use Rattle.std.proofs.lemmas.Bool.{cases_eq, cases_lt}
use Rattle.std.proofs.lemmas.Nat.{leading_length}
use Rattle.std.proofs.lemmas.Nat.Bits.{bit_at-zero, bit_at_above, bit_at-trailing_zeros}
use Rattle.cql_lines.specs.Internal.Lengths.{is_set, greatest_in}
use Rattle.cql_lines.specs.Internal.LengthSets.{union_in}

pub lowest_bit : (mask count : ℕ) → mask < 2 ^ 64 → (j : ℕ) → j < min (trailing_zeros w64 mask) count → is_set mask j ≡ false
lowest_bit zero count fits j less = ap (λ b. b == 1) (bit_at-zero j)
lowest_bit (suc m) count fits j less =
    let low = min-le_left (trailing_zeros w64 (suc m)) count in
    ap (λ b. b == 1) ((bit_at-trailing_zeros w64 (suc m) (omega arith) fits).2 j (omega (arith, low, less)))

past_least : (a b j : ℕ) → min a b ≤ j → j < b → a ≤ j
past_least a b j least less = elim (cases_lt j a) [
  | inl low ↦ let both : j + 1 ≤ min a b = le-min (omega (arith, low)) (omega (arith, less)) in absurd (omega (arith, both, least))
  | inr high ↦ high
]

pub highest_bit : (mask count : ℕ) → mask < 2 ^ 64 → (j : ℕ) → min (64 - leading_zeros w64 mask) count ≤ j → j < count → is_set mask j ≡ false
highest_bit mask count fits j past less =
    let top = leading_length 64 mask fits in
    let sum = top.1 in
    let high = past_least (64 - leading_zeros w64 mask) count j past less in
    ap (λ b. b == 1) (bit_at_above mask top.0 j top.2 (omega (arith, sum, high)))

-- a total over the places of a mask, one by one
module _ (mask : ℕ) (total : ℕ → ℕ) (skips : (j : ℕ) → is_set mask j ≡ false → total (suc j) ≡ total j) where
  before_first : (n : ℕ) → ((j : ℕ) → j < n → is_set mask j ≡ false) → total n ≡ total 0
  before_first zero off = refl
  before_first (suc n) off = skips n (off n (omega arith)) ∙ before_first n (λ j less. off j (omega (arith, less)))

  past_last : (end count : ℕ) → end ≤ count → ((j : ℕ) → end ≤ j → j < count → is_set mask j ≡ false) → total end ≡ total count
  past_last end zero within off = let none : end ≡ zero = omega (arith, within) in ap total none
  past_last end (suc n) within off = elim (cases_eq end (suc n)) [
    | inl all ↦ ap total all
    | inr fewer ↦
        let low : end ≤ n = omega (arith, within, fewer) in
        past_last end n low (λ j from less. off j from (omega (arith, less))) ∙ sym (skips n (off n low (omega arith)))
  ]

skips_greatest : (mask : ℕ) (values : ℕ → ℕ) (j : ℕ) → is_set mask j ≡ false → greatest_in mask values (suc j) ≡ greatest_in mask values j
skips_greatest mask values j off = rw off refl

pub greatest_before : (mask : ℕ) (values : ℕ → ℕ) (n : ℕ) → ((j : ℕ) → j < n → is_set mask j ≡ false) → 0 ≡ greatest_in mask values n
greatest_before mask values n off = sym (before_first mask (greatest_in mask values) (skips_greatest mask values) n off)

pub greatest_past : (mask : ℕ) (values : ℕ → ℕ) (end count : ℕ) → end ≤ count → ((j : ℕ) → end ≤ j → j < count → is_set mask j ≡ false)
    → greatest_in mask values end ≡ greatest_in mask values count
greatest_past mask values = past_last mask (greatest_in mask values) (skips_greatest mask values)

skips_union : (mask : ℕ) (values : ℕ → ℕ) (j : ℕ) → is_set mask j ≡ false → union_in mask values (suc j) ≡ union_in mask values j
skips_union mask values j off = rw off refl

pub union_before : (mask : ℕ) (values : ℕ → ℕ) (n : ℕ) → ((j : ℕ) → j < n → is_set mask j ≡ false) → 0 ≡ union_in mask values n
union_before mask values n off = sym (before_first mask (union_in mask values) (skips_union mask values) n off)

pub union_past : (mask : ℕ) (values : ℕ → ℕ) (end count : ℕ) → end ≤ count → ((j : ℕ) → end ≤ j → j < count → is_set mask j ≡ false)
    → union_in mask values end ≡ union_in mask values count
union_past mask values = past_last mask (union_in mask values) (skips_union mask values)
