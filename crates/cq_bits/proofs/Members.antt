-- The squares of a set, and the men on them.
use Rattle.std.proofs.Common.{true≢false, eqb-true, eq-eqb, not, ◌&&◌, List, ◌≡◌, ℕ, ◌+◌, ◌*◌, ◌%◌, ◌^◌, ◌<◌, ◌≤◌, ◌⊎◌, inl, inr, ⊎_elim, ◌↔◌, Bool, true, false, refl, sym, ◌∙◌, subst, arith}
use Rattle.std.specs.Prelude.{bit_or, bit_and}
use Rattle.std.specs.Int.{bit_at, bit_not, w64}
use Rattle.std.proofs.lemmas.Bool.{cases_eq}
use Rattle.std.proofs.lemmas.Nat.Bits.{bit_at_set_same, bit_at_set_other}
use Rattle.cq_position.specs.Board.{man_at}
use Rattle.cq_position.specs.Bitboards.{IsBitboard, bit_of}
use Rattle.cq_position.specs.declared.men.Man.{Man}
use Rattle.cq_bits.specs.Sets.{Has, has, IsSetOf, IsChosen, slides, goes_straight, goes_diagonally}
use Rattle.cq_square_sets.proofs.Marked.{marks_or, marks_not}
use Rattle.cq_square_sets.proofs.Bits.{nothing_there, in_either, in_both, both_have, from_first, from_second}

pub one_more : (set number : ℕ) → number < 64 → (square : ℕ) → square < 64
    → Has (bit_or set (1 * 2 ^ number % 18446744073709551616)) square ↔ (Has set square ⊎ ((square ≡ number) × (true ≡ true)))
one_more set number low square below = (there, back)
  where
    there : Has (bit_or set (1 * 2 ^ number % 18446744073709551616)) square → Has set square ⊎ ((square ≡ number) × (true ≡ true))
    there h = ⊎_elim (λ same. inr (same, refl)) (λ other. inl (sym (bit_at_set_other w64 set number low square other) ∙ h)) (cases_eq square number)

    back : Has set square ⊎ ((square ≡ number) × (true ≡ true)) → Has (bit_or set (1 * 2 ^ number % 18446744073709551616)) square
    back (inl old) = from_first set _ square old
    back (inr new) = subst (λ k. Has (bit_or set (1 * 2 ^ number % 18446744073709551616)) k) (sym new.0) (bit_at_set_same w64 set number low)

has_true : (set k : ℕ) → has set k ≡ true → Has set k
has_true set k e = eqb-true (bit_at set k) 1 e

pub has_exactly : (set k : ℕ) → (has set k ≡ true) ↔ Has set k
has_exactly set k = (has_true set k, λ h. eq-eqb (bit_at set k) 1 h)

pub both_true : (a b : Bool) → ((a && b) ≡ true) ↔ ((a ≡ true) × (b ≡ true))
both_true true b = ((λ e. (refl, e)), (λ p. p.1))
both_true false b = ((λ e. absurd (true≢false (sym e))), (λ p. p.0))

pub not_is : (b : Bool) → (not b ≡ true) ↔ (b ≡ false)
not_is true = ((λ e. absurd (true≢false (sym e))), (λ e. absurd (true≢false e)))
not_is false = ((λ e. refl), (λ e. refl))

bit_is : (b : Bool) → (bit_of b ≡ 1) ↔ (b ≡ true)
bit_is true = ((λ e. refl), (λ e. refl))
bit_is false = ((λ e. absurd (omega arith)), (λ e. absurd (true≢false (sym e))))

pub bitboard_has : (mask : ℕ) (test : ℕ → Bool) → IsBitboard mask test → (k : ℕ) → k < 64 → Has mask k ↔ (test k ≡ true)
bitboard_has mask test board k low = ((λ h. (bit_is (test k)).0 (sym (board.bit k low) ∙ h)), (λ e. board.bit k low ∙ (bit_is (test k)).1 e))

pub chosen_exactly : (kind : Man → Bool) (men : List Man) (set there : ℕ) → IsBitboard there (λ k. kind (man_at men k)) → IsSetOf (bit_and set there) (IsChosen kind men set)
chosen_exactly kind men set there m k low =
    let b = bitboard_has there (λ s. kind (man_at men s)) m k low in
    ((λ h. let p = in_both set there k h in (p.0, b.0 p.1)), (λ p. both_have set there k p.0 (b.1 p.1)))

-- the squares of a set on which no man stands that goes along lines
pub leapers_exactly : (men : List Man) (set a b : ℕ) → bit_or a b < 2 ^ 64 → IsBitboard a (λ k. goes_straight (man_at men k)) → IsBitboard b (λ k. goes_diagonally (man_at men k))
    → IsSetOf (bit_and set (bit_not w64 (bit_or a b))) (λ k. Has set k × (slides (man_at men k) ≡ false))
leapers_exactly men set a b fits straight diagonal k low =
    let lines = marks_or a b _ _ straight diagonal in
    let board = bitboard_has (bit_not w64 (bit_or a b)) (λ s. not (slides (man_at men s))) (marks_not (bit_or a b) (λ s. slides (man_at men s)) fits lines) k low in
    let n = not_is (slides (man_at men k)) in
    ((λ h. let p = in_both set (bit_not w64 (bit_or a b)) k h in (p.0, n.0 (board.0 p.1))), (λ p. both_have set (bit_not w64 (bit_or a b)) k p.0 (board.1 (n.1 p.1))))
