-- Sets gathered from the squares of a set, the lowest first.
use Rattle.std.proofs.Common.{◌≡◌, ℕ, ◌*◌, ◌%◌, ◌^◌, ◌<◌, ◌≤◌, ◌⊎◌, ⊎_elim, refl, sym, ap, ◌∙◌, subst, arith}
use Rattle.std.specs.Prelude.{bit_and, bit_or}
use Rattle.std.specs.Int.{bit_at, bit_not, trailing_zeros, w64}
use Rattle.std.proofs.lemmas.Bool.{cases_eq}
use Rattle.std.proofs.lemmas.Nat.{and_le_l}
use Rattle.std.proofs.lemmas.Nat.Bits.{bit_at-trailing_zeros, bit_at_clear_same, bit_at_clear_other}
use Rattle.cq_bits.specs.Sets.{Has, IsSetOf}
use Rattle.cq_square_sets.proofs.Bits.{in_both, in_either, from_first, from_second, nothing_there}

-- the set without a square
abbrev pub cleared : ℕ → ℕ → ℕ
cleared set square = bit_and set (bit_not w64 (1 * 2 ^ square % 2 ^ 64))

-- all that belongs to some square of the set was found, except for the squares still left
pub record IsGathered (P : ℕ → ℕ → Type 0) (set left found : ℕ) : Type 0 where
  pub inside : (t : ℕ) → t < 64 → Has left t → Has set t
  pub done : IsSetOf found (λ s. (t : ℕ) × (t < 64) × Has set t × (Has left t → ⊥) × P s t)

pub gathered_none : (P : ℕ → ℕ → Type 0) (set : ℕ) → IsGathered P set set 0
gathered_none P set = record {
  inside = λ t low h. h;
  done = λ s low. ((λ h. absurd (nothing_there s h)), (λ p. absurd (p.3 p.2)));
}

module _ (left : ℕ) (some : 0 < left) (fits : left < 2 ^ 64) where
  abbrev pub lowest : ℕ
  lowest = trailing_zeros w64 left

  low_is : lowest < 64
  low_is = (bit_at-trailing_zeros w64 left some fits).0

  there_is : Has left lowest
  there_is = (bit_at-trailing_zeros w64 left some fits).1

  gone_is : Has (cleared left lowest) lowest → ⊥
  gone_is h = let z = bit_at_clear_same w64 left lowest low_is in omega arith

  pub shorter : cleared left lowest < left
  shorter =
      let le = and_le_l left (bit_not w64 (1 * 2 ^ lowest % 2 ^ 64)) in
      ⊎_elim (λ same. absurd (gone_is (ap (λ n. bit_at n lowest) same ∙ there_is))) (λ other. omega (arith, le, other)) (cases_eq (cleared left lowest) left)

  pub one_more : (P : ℕ → ℕ → Type 0) (set found one : ℕ) → IsSetOf one (λ s. P s lowest) → IsGathered P set left found → IsGathered P set (cleared left lowest) (bit_or found one)
  one_more P set found one new so_far = record {
    inside = λ t low h. so_far.inside t low (in_both left _ t h).0;
    done = λ s low. (there s low, back s low);
  }
    where
      there : (s : ℕ) → s < 64 → Has (bit_or found one) s → (t : ℕ) × (t < 64) × Has set t × (Has (cleared left lowest) t → ⊥) × P s t
      there s low h = ⊎_elim
          (λ old. let p = (so_far.done s low).0 old in (p.0, p.1, p.2, (λ k. p.3 (in_both left _ p.0 k).0), p.4))
          (λ fresh. (lowest, low_is, so_far.inside lowest low_is there_is, gone_is, (new s low).0 fresh))
          (in_either found one s h)

      back : (s : ℕ) → s < 64 → (t : ℕ) × (t < 64) × Has set t × (Has (cleared left lowest) t → ⊥) × P s t → Has (bit_or found one) s
      back s low p = ⊎_elim
          (λ same. from_second found one s ((new s low).1 (subst (λ t. P s t) same p.4)))
          (λ other. from_first found one s ((so_far.done s low).1
          (p.0, p.1, p.2, (λ h. p.3 (bit_at_clear_other w64 left lowest low_is p.0 p.1 other ∙ h)), p.4)))
          (cases_eq p.0 lowest)

-- the same where the lowest square and its bit have names
pub smaller : (left square bit : ℕ) → 0 < left → left < 2 ^ 64 → square ≡ trailing_zeros w64 left → bit ≡ square → cleared left bit < left
smaller left square bit some fits e f = subst (λ q. cleared left q < left) (sym (f ∙ e)) (shorter left some fits)

-- the lowest square of what is left, and its bit
pub record IsLowest (left square bit : ℕ) : Type 0 where
  pub some : 0 < left
  pub fits : left < 2 ^ 64
  pub lowest : square ≡ trailing_zeros w64 left
  pub same : bit ≡ square

pub more : (P : ℕ → ℕ → Type 0) (set left found one square bit : ℕ) → IsLowest left square bit
    → IsSetOf one (λ s. P s square) → IsGathered P set left found → IsGathered P set (cleared left bit) (bit_or found one)
more P set left found one square bit next new so_far =
    subst (λ q. IsGathered P set (cleared left q) (bit_or found one)) (sym (next.same ∙ next.lowest))
    (one_more left next.some next.fits P set found one (subst (λ q. IsSetOf one (λ s. P s q)) next.lowest new) so_far)

pub gathered_all : (P : ℕ → ℕ → Type 0) (set left found : ℕ) → left ≡ 0 → IsGathered P set left found → IsSetOf found (λ s. (t : ℕ) × (t < 64) × Has set t × P s t)
gathered_all P set left found none so_far s low = (
  (λ h. let p = (so_far.done s low).0 h in (p.0, p.1, p.2, p.4)),
  (λ p. (so_far.done s low).1 (p.0, p.1, p.2, (λ h. nothing_there p.0 (subst (λ n. Has n p.0) none h)), p.3)),
)

-- each square gathers nothing but itself
pub gathered_alone : (P : ℕ → Type 0) (set left found : ℕ) → left ≡ 0 → IsGathered (λ s t. (s ≡ t) × P t) set left found → IsSetOf found (λ s. Has set s × P s)
gathered_alone P set left found none so_far s low =
    let all = gathered_all (λ s t. (s ≡ t) × P t) set left found none so_far s low in (
      (λ h. let p = all.0 h in subst (λ t. Has set t × P t) (sym p.3.0) (p.2, p.3.1)),
      (λ p. all.1 (s, low, p.0, (refl, p.1))),
    )
