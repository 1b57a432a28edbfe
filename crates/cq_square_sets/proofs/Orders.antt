-- The two orders of a ray's squares, and the squares up to one in each.
use Rattle.std.proofs.Common.{◌≡◌, ℕ, suc, ◌+◌, ◌-◌, ◌*◌, ◌/◌, ◌%◌, ◌^◌, ◌<◌, ◌≤◌, Bool, true, not, List, map, ltb-true, ltb-false, lt-ltb, refl, sym, ap, ◌∙◌, arith}
use Rattle.std.specs.Prelude.{bit_or, bit_and, nat_lt}
use Rattle.std.specs.Int.{bit_at, bit_not, trailing_zeros, leading_zeros, w64}
use Rattle.std.proofs.Math.Nat.{div-eq_of_lt-le, pow-suc}
use Rattle.std.proofs.lemmas.Nat.{and_le_l, or_lt, leading_top, pow_below}
use Rattle.std.proofs.lemmas.Nat.Bits.{bit_at-trailing_zeros, bit_at_above, bit_at-pow_other}
use Rattle.cq_geometry.specs.Squares.{squares}
use Rattle.cq_geometry.specs.Lines.{seen}
use Rattle.cq_geometry.proofs.Tables.{at_squares}
use Rattle.cq_square_sets.specs.Bitboards.{IsBitboard, bit_of, contains}
use Rattle.cq_square_sets.specs.Sets.{is_below, is_above, rises, falls}
use Rattle.cq_square_sets.proofs.Stops.{IsOrder, IsFirst, seen_by, with_last}

up_to_table : map (λ s. map (λ k. bit_at (18446744073709551615 / 2 ^ (63 - s)) k) squares) squares ≡ map (λ s. map (λ k. bit_of (not (is_below s k))) squares) squares
unfolding squares
up_to_table = refl

pub up_to : (s : ℕ) → s < 64 → IsBitboard (18446744073709551615 / 2 ^ (63 - s)) (λ k. not (is_below s k))
up_to s low = record { bit = λ k h. at_squares (λ a k. bit_at (18446744073709551615 / 2 ^ (63 - a)) k) (λ a k. bit_of (not (is_below a k))) up_to_table s k low h }

from_table : map (λ s. map (λ k. bit_at (18446744073709551615 * 2 ^ s % 18446744073709551616) k) squares) squares ≡ map (λ s. map (λ k. bit_of (not (is_above s k))) squares) squares
unfolding squares
from_table = refl

pub from_on : (s : ℕ) → s < 64 → IsBitboard (18446744073709551615 * 2 ^ s % 18446744073709551616) (λ k. not (is_above s k))
from_on s low = record { bit = λ k h. at_squares (λ a k. bit_at (18446744073709551615 * 2 ^ a % 18446744073709551616) k) (λ a k. bit_of (not (is_above a k))) from_table s k low h }

less_one_way : (x y : ℕ) → nat_lt x y ≡ true → nat_lt y x ≡ true → ⊥
less_one_way x y e f = let a = ltb-true x y e in let b = ltb-true y x f in absurd (omega arith)

pub rising_order : IsOrder is_below 9223372036854775808
rising_order = record {
  one_way = less_one_way;
  all = λ x y s b c. lt-ltb s y (let h = ltb-true x y b in let k = ltb-false x s c in omega arith);
  end = λ s y low b. bit_at-pow_other 63 s (λ e. let h = ltb-true s y b in absurd (omega arith));
}

pub falling_order : IsOrder is_above 1
falling_order = record {
  one_way = λ x y e f. less_one_way y x e f;
  all = λ x y s b c. lt-ltb y s (let h = ltb-true y x b in let k = ltb-false s x c in omega arith);
  end = λ s y low b. bit_at-pow_other 0 s (λ e. let h = ltb-true y s b in absurd (omega arith));
}

pub lowest_first : (set s : ℕ) → 0 < set → set < 2 ^ 64 → s ≡ trailing_zeros w64 set → s < 64 → IsFirst is_below set s
lowest_first set s some fits e low =
    let z = bit_at-trailing_zeros w64 set some fits in
    record {
      there = ap (bit_at set) e ∙ z.1;
      none = λ k b. z.2 k (let h = ltb-true k s b in omega (arith, e));
      board = low;
    }

pub highest_first : (set s : ℕ) → bit_at set s ≡ 1 → ((k : ℕ) → s < k → bit_at set k ≡ 0) → s < 64 → IsFirst is_above set s
highest_first set s there above low = record { there = there; none = λ k b. above k (ltb-true s k b); board = low }

-- the squares seen along a ray with rising numbers, by the lowest stop
pub seen_to_lowest : (ray empty s : ℕ) (along : List ℕ) (occupied : ℕ → Bool) → ray < 2 ^ 64 → empty < 2 ^ 64
    → s ≡ trailing_zeros w64 (bit_or (bit_and ray (bit_not w64 empty)) 9223372036854775808) → s < 64
    → rises along ≡ true → IsBitboard ray (contains along) → IsBitboard empty (λ k. not (occupied k))
    → IsBitboard (bit_and ray (18446744073709551615 / 2 ^ (63 - s))) (contains (seen occupied along))
seen_to_lowest ray empty s along occupied ray_fits fits e low order m n =
    let stops = bit_or (bit_and ray (bit_not w64 empty)) 9223372036854775808 in
    let first = lowest_first stops s (with_last (bit_and ray (bit_not w64 empty)) 9223372036854775808 63 refl) (stops_fit ray empty ray_fits) e low in
    seen_by is_below 9223372036854775808 rising_order ray empty s along occupied (18446744073709551615 / 2 ^ (63 - s)) order fits m n first (up_to s low)
  where
    stops_fit : (ray empty : ℕ) → ray < 2 ^ 64 → bit_or (bit_and ray (bit_not w64 empty)) 9223372036854775808 < 2 ^ 64
    stops_fit ray empty fits = or_lt 64 (bit_and ray (bit_not w64 empty)) 9223372036854775808 (let l = and_le_l ray (bit_not w64 empty) in omega arith) (pow_below 63 64 (omega arith))

-- and along one whose numbers fall, by the highest
pub seen_to_highest : (ray empty s : ℕ) (along : List ℕ) (occupied : ℕ → Bool) → empty < 2 ^ 64
    → bit_at (bit_or (bit_and ray (bit_not w64 empty)) 1) s ≡ 1 → ((k : ℕ) → s < k → bit_at (bit_or (bit_and ray (bit_not w64 empty)) 1) k ≡ 0) → s < 64
    → falls along ≡ true → IsBitboard ray (contains along) → IsBitboard empty (λ k. not (occupied k))
    → IsBitboard (bit_and ray (18446744073709551615 * 2 ^ s % 18446744073709551616)) (contains (seen occupied along))
seen_to_highest ray empty s along occupied fits there above low order m n =
    let first = highest_first (bit_or (bit_and ray (bit_not w64 empty)) 1) s there above low in
    seen_by is_above 1 falling_order ray empty s along occupied (18446744073709551615 * 2 ^ s % 18446744073709551616) order fits m n first (from_on s low)

-- the highest bit of a word that is not 0
top_bit : (set : ℕ) → 0 < set → set < 2 ^ 64 → (j : ℕ) × (leading_zeros w64 set + suc j ≡ 64) × (bit_at set j ≡ 1) × ((k : ℕ) → j < k → bit_at set k ≡ 0)
top_bit set some fits =
    let t = leading_top 64 set some fits in
    let one : set / 2 ^ t.0 ≡ 1 = div-eq_of_lt-le (2 ^ t.0) (omega (arith, t.2)) (let p = pow-suc 2 t.0 in omega (arith, t.3, p)) in
    (t.0, t.1, ap (λ n. n % 2) one, λ k h. bit_at_above set (suc t.0) k t.3 (omega (arith, h)))

top_place : (set : ℕ) (some : 0 < set) (fits : set < 2 ^ 64) → (top_bit set some fits).0 ≡ 63 - leading_zeros w64 set
top_place set some fits = let e = (top_bit set some fits).1 in omega arith

pub highest_low : (set : ℕ) → 0 < set → set < 2 ^ 64 → leading_zeros w64 set ≤ 63
highest_low set some fits = let e = (top_bit set some fits).1 in omega arith

pub highest_there : (set : ℕ) → 0 < set → set < 2 ^ 64 → bit_at set (63 - leading_zeros w64 set) ≡ 1
highest_there set some fits = ap (bit_at set) (sym (top_place set some fits)) ∙ (top_bit set some fits).2

pub highest_above : (set k : ℕ) → 0 < set → set < 2 ^ 64 → 63 - leading_zeros w64 set < k → bit_at set k ≡ 0
highest_above set k some fits h = (top_bit set some fits).3 k (let e = top_place set some fits in omega (arith, e, h))
