-- Intersections of sets.
use Rattle.std.proofs.Common.{◌≡◌, ℕ, ◌^◌, ◌<◌, Bool, true, false, not, ◌&&◌, ◌==◌, length, get_or, refl, sym, ap, ◌∙◌, arith, inl, inr}
use Rattle.std.specs.Prelude.{bit_and}
use Rattle.std.specs.List.{list_any}
use Rattle.std.specs.Int.{bit_at}
use Rattle.std.proofs.lemmas.Bool.{cases_Bool, eq-eqb, eqb-true, false≢true}
use Rattle.std.proofs.lemmas.Nat.{and_le_l}
use Rattle.std.proofs.lemmas.Nat.Bits.{bit_at-zero, same_from_bits_below}
use Rattle.std.proofs.lemmas.List.Folds.{list_any_at, Any-from_list_any}
use Rattle.std.proofs.lemmas.List.FromFn.{get_or-range_with_len}
use Rattle.cq_geometry.specs.Squares.{squares}
use Rattle.cq_square_sets.specs.Bitboards.{IsBitboard, bit_of}
use Rattle.cq_square_sets.proofs.Marked.{marks_and}

square_at : (n : ℕ) → n < 64 → get_or squares n 0 ≡ n
unfolding squares
square_at n h = omega (arith, get_or-range_with_len 0 64 n 0 h)

board_length : length squares ≡ 64
unfolding squares
board_length = refl

any_square : (p : ℕ → Bool) (k : ℕ) → k < 64 → p k ≡ true → list_any p squares ≡ true
any_square p k low e = list_any_at p squares k 0 (omega (arith, board_length)) (ap p (square_at k low) ∙ e)

not_of : (b : Bool) → (b ≡ true → ⊥) → b ≡ false
not_of true h = absurd (h refl)
not_of false h = refl

at_place : (n d : ℕ) → n < 64 → get_or squares n d ≡ n
unfolding squares
at_place n d h = omega (arith, get_or-range_with_len 0 64 n d h)

-- a set is empty exactly where no square passes its test
pub none_set : (a : ℕ) (p : ℕ → Bool) → a < 2 ^ 64 → IsBitboard a p → list_any p squares ≡ false → a ≡ 0
none_set a p fits m none =
    same_from_bits_below 64 a 0 fits (omega arith)
    (λ k low. m.bit k low ∙ ap bit_of (not_of (p k) (λ e. false≢true (sym none ∙ any_square p k low e))) ∙ sym (bit_at-zero k))

pub some_set : (a : ℕ) (p : ℕ → Bool) → IsBitboard a p → list_any p squares ≡ true → a ≡ 0 → ⊥
some_set a p m some e =
    let any = Any-from_list_any p squares some in
    let k = any.0 in
    let x = any.1 in
    let low : k < 64 = omega (arith, any.2, board_length) in
    let here : x ≡ k = sym any.3 ∙ at_place k x low in
    let passes : p k ≡ true = ap p (sym here) ∙ any.4 in
    let one : bit_at a k ≡ 1 = m.bit k low ∙ ap bit_of passes in
    let zero_there : bit_at a k ≡ 0 = ap (λ n. bit_at n k) e ∙ bit_at-zero k in
    absurd (omega (arith, one, zero_there))

pub meets_is : (a b : ℕ) (t u : ℕ → Bool) → a < 2 ^ 64 → IsBitboard a t → IsBitboard b u → not (bit_and a b == 0) ≡ list_any (λ k. t k && u k) squares
meets_is a b t u fits m n =
    let p = λ (k : ℕ). t k && u k in
    let both = marks_and a b t u m n in
    let small : bit_and a b < 2 ^ 64 = (let l = and_le_l a b in omega arith) in
    elim (cases_Bool (list_any p squares)) [
      | inl some ↦ ap not (not_of (bit_and a b == 0) (λ z. some_set (bit_and a b) p both some (eqb-true (bit_and a b) 0 z))) ∙ sym some
      | inr none ↦ ap not (eq-eqb (bit_and a b) 0 (none_set (bit_and a b) p small both none)) ∙ sym none
    ]
