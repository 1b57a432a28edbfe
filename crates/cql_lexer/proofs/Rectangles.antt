-- The squares of ranges of files and ranks, computed, for each pair of ranges.
use Rattle.std.proofs.Common.{◌≡◌, ℕ, zero, suc, ◌+◌, ◌-◌, ◌*◌, ◌/◌, ◌%◌, ◌^◌, ◌<◌, ◌≤◌, Bool, true, inl, inr, ⊎_elim, refl, ap, ◌∙◌, arith, bit_and}
use Rattle.std.specs.Prelude.{◌&&◌, ◌||◌, not, nat_le, nat_eq}
use Rattle.std.proofs.str.Laws.{order}
use Rattle.std.specs.Prelude.{◌⊎◌}
use Rattle.std.proofs.lemmas.Bool.{and_parts, le-leb, leb-true, eqb-true}
use Rattle.cql_lexer.specs.Designators.{squares_within}

-- the test passes at the numbers from the first on, so many
abbrev pub all_on : (ℕ → Bool) → ℕ → ℕ → Bool
all_on test first zero = true
all_on test first (suc len) = test first && all_on test (first + 1) len

pub first_or_above : (first k : ℕ) → first ≤ k → (k ≡ first) ⊎ (first + 1 ≤ k)
first_or_above first k low = ⊎_elim (λ above. inr (omega arith)) (λ same. inl (omega arith)) (order first k)

-- so it passes at each of them
pub at_one : (test : ℕ → Bool) (first len : ℕ) → all_on test first len ≡ true → (k : ℕ) → first ≤ k → k < first + len → test k ≡ true
at_one test first zero all k low high = absurd (omega arith)
at_one test first (suc len) all k low high =
    ⊎_elim
    (λ same. ap test same ∙ (and_parts _ _ all).0)
    (λ above. at_one test (first + 1) len (and_parts _ _ all).1 k above (omega arith))
    (first_or_above first k low)

-- the value that the code computes
abbrev computed : ℕ → ℕ → ℕ → ℕ → ℕ
computed file last_file rank last_rank =
    bit_and (bit_and ((2 * 2 ^ (last_file - 97) % 2 ^ 64 - 1 * 2 ^ (file - 97) % 2 ^ 64) * 0x0101010101010101)
    ((2 ^ 64 - 1) / 2 ^ (8 * (56 - last_rank)))) ((2 ^ 64 - 1) * 2 ^ (8 * (rank - 49)) % 2 ^ 64)

abbrev agrees : ℕ → ℕ → ℕ → ℕ → Bool
agrees file last_file rank last_rank =
    not (nat_le file last_file) || not (nat_le rank last_rank)
    || (nat_le (1 * 2 ^ (file - 97) % 2 ^ 64) (2 * 2 ^ (last_file - 97) % 2 ^ 64) && nat_eq (computed file last_file rank last_rank) (squares_within file last_file rank last_rank))

table : all_on (λ file. all_on (λ last_file. all_on (λ rank. all_on (λ last_rank. agrees file last_file rank last_rank) 49 8) 49 8) 97 8) 97 8 ≡ true
unfolding squares_within
table = refl

agreed : (file last_file rank last_rank : ℕ) → 97 ≤ file → file ≤ last_file → last_file ≤ 104 → 49 ≤ rank → rank ≤ last_rank → last_rank ≤ 56 → agrees file last_file rank last_rank ≡ true
agreed file last_file rank last_rank a b c d e f =
    at_one (λ s. agrees file last_file rank s) 49 8
    (at_one (λ r. all_on (λ s. agrees file last_file r s) 49 8) 49 8
    (at_one (λ l. all_on (λ r. all_on (λ s. agrees file l r s) 49 8) 49 8) 97 8
    (at_one (λ k. all_on (λ l. all_on (λ r. all_on (λ s. agrees k l r s) 49 8) 49 8) 97 8) 97 8 table file a (omega arith))
    last_file (omega arith) (omega arith))
    rank d (omega arith))
    last_rank (omega arith) (omega arith)

parts : (x y m n p q s t : ℕ) → x ≤ y → m ≤ n → (not (nat_le x y) || not (nat_le m n) || (nat_le p q && nat_eq s t)) ≡ true → (p ≤ q) × (s ≡ t)
parts x y m n p q s t a b h =
    let e : nat_le x y ≡ true = le-leb x y a in
    let f : nat_le m n ≡ true = le-leb m n b in
    let g = rw (e, f) at h in
    (leb-true p q (and_parts _ _ g).0, eqb-true s t (and_parts _ _ g).1)

-- the difference of the powers fits, and what the code computes is the squares of the ranges
pub within : (file last_file rank last_rank : ℕ) → 97 ≤ file → file ≤ last_file → last_file ≤ 104 → 49 ≤ rank → rank ≤ last_rank → last_rank ≤ 56
    → (1 * 2 ^ (file - 97) % 2 ^ 64 ≤ 2 * 2 ^ (last_file - 97) % 2 ^ 64) × (computed file last_file rank last_rank ≡ squares_within file last_file rank last_rank)
within file last_file rank last_rank a b c d e f = parts file last_file rank last_rank _ _ _ _ b e (agreed file last_file rank last_rank a b c d e f)
