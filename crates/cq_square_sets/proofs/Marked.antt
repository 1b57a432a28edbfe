-- Sets of squares as numbers, and their elements.
use Rattle.std.proofs.Common.{◌≡◌, ℕ, ◌-◌, ◌*◌, ◌%◌, ◌^◌, ◌<◌, max, min, Bool, true, false, not, ◌&&◌, ◌||◌, eqb, refl, sym, ap, ◌∙◌, arith, inl, inr, pos, negsuc}
use Rattle.std.specs.Prelude.{bit_or, bit_and}
use Rattle.std.specs.Int.{bit_not, w64}
use Rattle.std.proofs.Math.Nat.{one-mul, mod-eq_of_lt}
use Rattle.std.proofs.lemmas.Nat.{pow_below}
use Rattle.std.proofs.lemmas.Bool.{cases_eq}
use Rattle.std.proofs.lemmas.Bool.Decides.{nat_tests}
use Rattle.std.proofs.lemmas.Nat.Bits.{bit_at-zero, bit_at_or, bit_at_and, bit_at_not, bit_at-pow_same, bit_at-pow_other}
use Rattle.cq_geometry.specs.Steps.{ray_from}
use Rattle.cq_geometry.specs.Lines.{is_orthogonal, is_diagonal, is_open, seen}
use Rattle.cq_geometry.proofs.Seen.{sees_orthogonals, sees_diagonals}
use Rattle.cq_square_sets.specs.Bitboards.{IsBitboard, bit_of, contains}

same_test : (a b : ℕ) → a ≡ b → eqb a b ≡ true
same_test a b e = grind (arith, nat_tests)

other_test : (a b : ℕ) → (a ≡ b → ⊥) → eqb a b ≡ false
other_test a b ne = grind (arith, nat_tests)

-- sets whose squares pass the same test
pub marks_same : (mask : ℕ) (t u : ℕ → Bool) → ((k : ℕ) → k < 64 → t k ≡ u k) → IsBitboard mask t → IsBitboard mask u
marks_same mask t u same m = record { bit = λ k h. m.bit k h ∙ ap bit_of (same k h) }

pub marks_none : IsBitboard 0 (λ k. false)
marks_none = record { bit = λ k h. bit_at-zero k }

max_bits : (t u : Bool) → max (bit_of t) (bit_of u) ≡ bit_of (t || u)
max_bits true true = refl
max_bits true false = refl
max_bits false true = refl
max_bits false false = refl

pub marks_or : (a b : ℕ) (t u : ℕ → Bool) → IsBitboard a t → IsBitboard b u → IsBitboard (bit_or a b) (λ k. t k || u k)
marks_or a b t u m n = record { bit = λ k h. rw (bit_at_or a b k, m.bit k h, n.bit k h) (max_bits (t k) (u k)) }

min_bits : (t u : Bool) → min (bit_of t) (bit_of u) ≡ bit_of (t && u)
min_bits true true = refl
min_bits true false = refl
min_bits false true = refl
min_bits false false = refl

pub marks_and : (a b : ℕ) (t u : ℕ → Bool) → IsBitboard a t → IsBitboard b u → IsBitboard (bit_and a b) (λ k. t k && u k)
marks_and a b t u m n = record { bit = λ k h. rw (bit_at_and a b k, m.bit k h, n.bit k h) (min_bits (t k) (u k)) }

not_bits : (t : Bool) → 1 - bit_of t ≡ bit_of (not t)
not_bits true = refl
not_bits false = refl

pub marks_not : (a : ℕ) (t : ℕ → Bool) → a < 2 ^ 64 → IsBitboard a t → IsBitboard (bit_not w64 a) (λ k. not (t k))
marks_not a t fits m = record { bit = λ k h. bit_at_not w64 a k fits h ∙ ap (λ n. 1 - n) (m.bit k h) ∙ not_bits (t k) }

-- one square alone
power_fits : (s : ℕ) → s < 64 → 1 * 2 ^ s % 18446744073709551616 ≡ 2 ^ s
power_fits s low = rw one-mul (mod-eq_of_lt (pow_below s 64 low))

pub marks_one : (s : ℕ) → s < 64 → IsBitboard (1 * 2 ^ s % 18446744073709551616) (λ k. eqb s k)
marks_one s low = record {
  bit = λ k h. elim (cases_eq k s) [
    | inl same ↦ rw (power_fits s low, same, same_test s s refl) (bit_at-pow_same s)
    | inr other ↦ rw (power_fits s low, other_test s k (λ f. other (sym f))) (bit_at-pow_other s k other)
  ];
}

-- the squares seen along the first of two lists, or the second, and so on
or_four : (a b c d : Bool) → (((a || b) || c) || d) ≡ (a || (b || (c || (d || false))))
or_four true b c d = refl
or_four false true c d = refl
or_four false false true d = refl
or_four false false false true = refl
or_four false false false false = refl

pub marks_orthogonal : (occupied : ℕ → Bool) (from a b c d : ℕ) → from < 64
    → IsBitboard a (contains (seen occupied (ray_from (pos 0) (pos 1) from))) → IsBitboard b (contains (seen occupied (ray_from (pos 0) (negsuc 0) from)))
    → IsBitboard c (contains (seen occupied (ray_from (negsuc 0) (pos 0) from))) → IsBitboard d (contains (seen occupied (ray_from (pos 1) (pos 0) from)))
    → IsBitboard (bit_or (bit_or (bit_or a b) c) d) (λ to. is_orthogonal from to && is_open occupied from to)
marks_orthogonal occupied from a b c d low up down left right =
    marks_same _ _ _ (λ k h. or_four (contains (seen occupied (ray_from (pos 0) (pos 1) from)) k)
    (contains (seen occupied (ray_from (pos 0) (negsuc 0) from)) k) (contains (seen occupied (ray_from (negsuc 0) (pos 0) from)) k)
    (contains (seen occupied (ray_from (pos 1) (pos 0) from)) k) ∙ sees_orthogonals occupied from k low h)
    (marks_or _ _ _ _ (marks_or _ _ _ _ (marks_or _ _ _ _ up down) left) right)

pub marks_diagonal : (occupied : ℕ → Bool) (from a b c d : ℕ) → from < 64
    → IsBitboard a (contains (seen occupied (ray_from (pos 1) (pos 1) from))) → IsBitboard b (contains (seen occupied (ray_from (negsuc 0) (pos 1) from)))
    → IsBitboard c (contains (seen occupied (ray_from (pos 1) (negsuc 0) from))) → IsBitboard d (contains (seen occupied (ray_from (negsuc 0) (negsuc 0) from)))
    → IsBitboard (bit_or (bit_or (bit_or a b) c) d) (λ to. is_diagonal from to && is_open occupied from to)
marks_diagonal occupied from a b c d low ne nw se sw =
    marks_same _ _ _ (λ k h. or_four (contains (seen occupied (ray_from (pos 1) (pos 1) from)) k)
    (contains (seen occupied (ray_from (negsuc 0) (pos 1) from)) k) (contains (seen occupied (ray_from (pos 1) (negsuc 0) from)) k)
    (contains (seen occupied (ray_from (negsuc 0) (negsuc 0) from)) k) ∙ sees_diagonals occupied from k low h)
    (marks_or _ _ _ _ (marks_or _ _ _ _ (marks_or _ _ _ _ ne nw) se) sw)

-- the queen's lines
and_over_or : (s t u : Bool) → (s && u || t && u) ≡ ((s || t) && u)
and_over_or true t true = refl
and_over_or true true false = refl
and_over_or true false false = refl
and_over_or false t u = refl

pub marks_queen : (occupied : ℕ → Bool) (from a b : ℕ) → IsBitboard a (λ to. is_orthogonal from to && is_open occupied from to) → IsBitboard b (λ to. is_diagonal from to && is_open occupied from to)
    → IsBitboard (bit_or a b) (λ to. (is_orthogonal from to || is_diagonal from to) && is_open occupied from to)
marks_queen occupied from a b m n =
    marks_same _ _ _ (λ k h. and_over_or (is_orthogonal from k) (is_diagonal from k) (is_open occupied from k))
    (marks_or a b (λ to. is_orthogonal from to && is_open occupied from to) (λ to. is_diagonal from to && is_open occupied from to) m n)
