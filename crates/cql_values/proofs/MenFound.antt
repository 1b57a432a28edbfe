-- The search for the men of a set by their numbers, the lowest first.
use Rattle.std.proofs.Common.{◌≡◌, ℕ, zero, suc, ◌-◌, ◌*◌, ◌%◌, ◌^◌, ◌<◌, ◌≤◌, Bool, true, false, not, ◌&&◌, ◌||◌, ◌==◌, List, get_or, refl, sym, ap, ap₂, ◌∙◌, subst, arith, max, inl, inr, ⊎_elim}
use Rattle.std.specs.Prelude.{bit_and, bit_or}
use Rattle.std.specs.Int.{bit_at, bit_not, trailing_zeros, w16}
use Rattle.std.proofs.Math.Bool.{or-false}
use Rattle.std.proofs.lemmas.Bool.{cases_eq, cases_lt, eq-eqb, ne_eqb}
use Rattle.std.proofs.lemmas.Nat.{and_le_l}
use Rattle.std.proofs.lemmas.Nat.Bits.{bit_at-zero, bit_at_above, bit_at_ones, bit_at_or, bit_at-trailing_zeros, bit_at_clear_same, bit_at_clear_other}
use Rattle.cq_position.specs.Bitboards.{IsBitboard, bit_of}
use Rattle.cq_position.specs.Board.{man_at, stands}
use Rattle.cq_position.specs.Men.{man_number}
use Rattle.cq_position.specs.declared.men.Man.{Man}
use Rattle.cq_position.specs.declared.men.Man.TheVariants.{K, Q, R, B, N, P, BlackK, BlackQ, BlackR, BlackB, BlackN, BlackP, Empty}
use Rattle.cq_position.proofs.Marked.{marks_same}
use Rattle.cq_symmetry.specs.Images.{is_in}
use Rattle.cql_values.proofs.Masks.{bit_in, has_bit, in_both, is_in_bit, max_of, nothing_in}
use Rattle.cql_values.proofs.Ranges.{left as first_holds}
use Rattle.cql_values.proofs.Standing.{all_men, and_true}

-- a set without one of its men
abbrev pub without : ℕ → ℕ → ℕ
without men man = bit_and men (bit_not w16 (1 * 2 ^ man % 2 ^ 16))

is_there : (m : Man) → is_in 8191 (man_number m) ≡ true
is_there K = refl
is_there Q = refl
is_there R = refl
is_there B = refl
is_there N = refl
is_there P = refl
is_there BlackK = refl
is_there BlackQ = refl
is_there BlackR = refl
is_there BlackB = refl
is_there BlackN = refl
is_there BlackP = refl
is_there Empty = refl

never : (w : Bool) → false ≡ (w && not w)
never true = refl
never false = refl

always : (w l : Bool) → l ≡ false → (w && not l) ≡ w
always true false e = refl
always true true e = cc
always false l e = refl

found_here : (w l e d : Bool) → w ≡ true → e ≡ true → d ≡ false → ((w && not l) || e) ≡ (w && not d)
found_here true true true false f g h = refl
found_here true false true false f g h = refl
found_here true l true true f g h = cc
found_here true l false d f g h = cc
found_here false l e d f g h = cc

found_away : (w l e d : Bool) → e ≡ false → d ≡ l → ((w && not l) || e) ≡ (w && not d)
found_away w l false d g h = or-false (w && not l) ∙ ap (λ x. w && not x) (sym h)
found_away w l true d g h = cc

-- the squares of the men of a set that are not left are marked
pub record FoundTo (men : List Man) (wanted left mask : ℕ) : Type 0 where
  pub known : left < 2 ^ 13
  pub inside : (k : ℕ) → is_in left k ≡ true → is_in wanted k ≡ true
  pub found : IsBitboard mask (λ s. is_in wanted (man_number (man_at men s)) && not (is_in left (man_number (man_at men s))))

pub found_none : (men : List Man) (wanted : ℕ) → wanted < 2 ^ 13 → FoundTo men wanted wanted 0
found_none men wanted known = record {
  known = known;
  inside = λ k e. e;
  found = record { bit = λ s low. bit_at-zero s ∙ ap bit_of (never (is_in wanted (man_number (man_at men s)))) };
}

pub found_all : (men : List Man) (wanted left mask : ℕ) → left ≡ 0 → FoundTo men wanted left mask → IsBitboard mask (λ s. is_in wanted (man_number (man_at men s)))
found_all men wanted left mask none had =
    marks_same _ _ _ (λ s low. let k = man_number (man_at men s) in always (is_in wanted k) (is_in left k) (ap (λ n. is_in n k) none ∙ nothing_in k)) had.found

-- the lowest of a set that is not empty
pub record IsLowest (left k : ℕ) : Type 0 where
  pub low : k < 13
  pub there : is_in left k ≡ true

pub lowest_is : (left k : ℕ) → 0 < left → left < 2 ^ 13 → k ≡ trailing_zeros w16 left → IsLowest left k
lowest_is left k some known is =
    let h = bit_at-trailing_zeros w16 left some (omega (arith, known)) in
    let set : bit_at left k ≡ 1 = ap (bit_at left) is ∙ h.1 in
    record {
      low = ⊎_elim (λ low. low) (λ high. let none = bit_at_above left 13 k known high in absurd (omega (arith, set, none))) (cases_lt k 13);
      there = bit_in left k set;
    }

pub fewer : (left k : ℕ) → 0 < left → left < 2 ^ 13 → k ≡ trailing_zeros w16 left → without left k < left
fewer left k some known is =
    let there = lowest_is left k some known is in
    let less = and_le_l left (bit_not w16 (1 * 2 ^ k % 2 ^ 16)) in
    let gone = bit_at_clear_same w16 left k (omega (arith, there.low)) in
    ⊎_elim (λ same. absurd (let set = ap (λ n. bit_at n k) same ∙ has_bit left k there.there in omega (arith, set, gone))) (λ other. omega (arith, less, other))
    (cases_eq (without left k) left)

-- each man has his place in the list of all
pub numbered : (k : ℕ) → k < 13 → (d : Man) → man_number (get_or all_men k d) ≡ k
numbered zero h d = refl
numbered (suc zero) h d = refl
numbered (suc (suc zero)) h d = refl
numbered (suc (suc (suc zero))) h d = refl
numbered (suc (suc (suc (suc zero)))) h d = refl
numbered (suc (suc (suc (suc (suc zero))))) h d = refl
numbered (suc (suc (suc (suc (suc (suc zero)))))) h d = refl
numbered (suc (suc (suc (suc (suc (suc (suc zero))))))) h d = refl
numbered (suc (suc (suc (suc (suc (suc (suc (suc zero)))))))) h d = refl
numbered (suc (suc (suc (suc (suc (suc (suc (suc (suc zero))))))))) h d = refl
numbered (suc (suc (suc (suc (suc (suc (suc (suc (suc (suc zero)))))))))) h d = refl
numbered (suc (suc (suc (suc (suc (suc (suc (suc (suc (suc (suc zero))))))))))) h d = refl
numbered (suc (suc (suc (suc (suc (suc (suc (suc (suc (suc (suc (suc zero)))))))))))) h d = refl
numbered (suc (suc (suc (suc (suc (suc (suc (suc (suc (suc (suc (suc (suc k))))))))))))) h d = absurd (omega (arith, h))

pub found_more : (men : List Man) (wanted left mask one k : ℕ) (man : Man) → 0 < left → k ≡ trailing_zeros w16 left → man_number man ≡ k
    → IsBitboard one (λ s. stands men s man) → FoundTo men wanted left mask → FoundTo men wanted (without left k) (bit_or mask one)
found_more men wanted left mask one k man some is own new had = record {
  known = let less = and_le_l left (bit_not w16 (1 * 2 ^ k % 2 ^ 16)) in omega (arith, less, had.known);
  inside = λ n e. had.inside n (first_holds (is_in left n) (is_in (bit_not w16 (1 * 2 ^ k % 2 ^ 16)) n) (sym (in_both left (bit_not w16 (1 * 2 ^ k % 2 ^ 16)) n) ∙ e));
  found = record {
    bit = λ s low. let n = number s in
        bit_at_or mask one s ∙ ap₂ max (had.found.bit s low) (new.bit s low) ∙ ap (λ i. max (bit_of (is_in wanted n && not (is_in left n))) (bit_of (n == i))) own ∙ max_of (is_in wanted n && not (is_in left n)) (n == k)
        ∙ ap bit_of (⊎_elim (λ same. here n same) (λ other. away n (is_low (man_at men s)) other) (cases_eq n k));
  };
}
  where
    number : ℕ → ℕ
    number s = man_number (man_at men s)

    lowest : IsLowest left k
    lowest = lowest_is left k some had.known is

    within : k < 16
    within = let low = lowest.low in omega (arith, low)

    is_low : (m : Man) → man_number m < 16
    is_low K = omega arith
    is_low Q = omega arith
    is_low R = omega arith
    is_low B = omega arith
    is_low N = omega arith
    is_low P = omega arith
    is_low BlackK = omega arith
    is_low BlackQ = omega arith
    is_low BlackR = omega arith
    is_low BlackB = omega arith
    is_low BlackN = omega arith
    is_low BlackP = omega arith
    is_low Empty = omega arith

    here : (n : ℕ) → n ≡ k → ((is_in wanted n && not (is_in left n)) || n == k) ≡ (is_in wanted n && not (is_in (without left k) n))
    here n same =
        found_here (is_in wanted n) (is_in left n) (n == k) (is_in (without left k) n) (ap (is_in wanted) same ∙ had.inside k lowest.there) (eq-eqb n k same)
        (ap (is_in (without left k)) same ∙ is_in_bit (without left k) k false (bit_at_clear_same w16 left k within))

    away : (n : ℕ) → n < 16 → (n ≡ k → ⊥) → ((is_in wanted n && not (is_in left n)) || n == k) ≡ (is_in wanted n && not (is_in (without left k) n))
    away n low other =
        found_away (is_in wanted n) (is_in left n) (n == k) (is_in (without left k) n) (ne_eqb n k other)
        (ap (λ b. b == 1) (bit_at_clear_other w16 left k within n low other))

-- the set has all men
pub all_wanted : (men : List Man) (wanted : ℕ) → bit_and wanted 8191 ≡ 8191 → IsBitboard (2 ^ 64 - 1) (λ s. is_in wanted (man_number (man_at men s)))
all_wanted men wanted all = record {
  bit = λ s low. let k = man_number (man_at men s) in
      bit_at_ones 64 s low ∙ ap bit_of (sym (first_holds (is_in wanted k) (is_in 8191 k) (sym (in_both wanted 8191 k) ∙ ap (λ n. is_in n k) all ∙ is_there (man_at men s))));
}

pub those_there : (men : List Man) (wanted mask : ℕ) → IsBitboard mask (λ s. is_in (bit_and wanted 8191) (man_number (man_at men s))) → IsBitboard mask (λ s. is_in wanted (man_number (man_at men s)))
those_there men wanted mask m =
    marks_same _ _ _ (λ s low. let k = man_number (man_at men s) in in_both wanted 8191 k ∙ ap (λ b. is_in wanted k && b) (is_there (man_at men s)) ∙ sym (and_true (is_in wanted k))) m
