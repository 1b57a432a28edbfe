-- A set is whole lines if each square of the board is in it exactly as the first square of its line is.
use Rattle.std.proofs.Common.{◌≡◌, ℕ, zero, suc, ◌+◌, ◌*◌, ◌<◌, ◌≤◌, Bool, true, false, cond, drop, inl, inr, refl, sym, ap, subst, ◌∙◌, arith}
use Rattle.std.specs.Prelude.{◌&&◌, ◌==◌, not}
use Rattle.std.specs.List.{list_all, range_with_len}
use Rattle.std.proofs.lemmas.Bool.{and_parts, eqb-true, eq-eqb}
use Rattle.std.proofs.lemmas.List.{at_drop_more, drop_all}
use Rattle.std.proofs.lemmas.List.FromFn.{get_or-range_with_len}
use Rattle.cq_geometry.specs.Squares.{file_of, rank_of, squares}
use Rattle.cq_symmetry.specs.Images.{is_in}
use Rattle.cq_symmetry.specs.Parts.{is_whole, are_whole_ranks, are_whole_files}
use Rattle.cql_lexer.specs.Designators.{are_alike}
use Rattle.cql_lexer.proofs.Rectangles.{first_or_above}

-- tests in tests

if_holds : (a b : Bool) → cond a b true ≡ true → a ≡ true → b ≡ true
if_holds true b e h = e
if_holds false b e h = absurd (cc)

if_by : (a b : Bool) → (a ≡ true → b ≡ true) → cond a b true ≡ true
if_by true b h = h refl
if_by false b h = refl

alike_on : (a b : Bool) → cond a b (not b) ≡ true → a ≡ true → b ≡ true
alike_on true b e h = e
alike_on false b e h = absurd (cc)

alike_back : (a b : Bool) → cond a b (not b) ≡ true → b ≡ true → a ≡ true
alike_back true b e h = refl
alike_back false true e h = absurd (cc)
alike_back false false e h = h

alike_by : (a b : Bool) → (a ≡ true → b ≡ true) → (b ≡ true → a ≡ true) → cond a b (not b) ≡ true
alike_by true b f g = f refl
alike_by false true f g = g refl
alike_by false false f g = refl

both : (a b : Bool) → a ≡ true → b ≡ true → (a && b) ≡ true
both true b e f = f
both false b e f = e

same : (a b : Bool) → (a ≡ true → b ≡ true) → (b ≡ true → a ≡ true) → a ≡ b
same true b f g = sym (f refl)
same false true f g = g refl
same false false f g = refl

-- a test of all numbers of a range

at_each : (p : ℕ → Bool) (a n : ℕ) → list_all p (range_with_len a n) ≡ true → (s : ℕ) → a ≤ s → s < a + n → p s ≡ true
at_each p a zero e s low high = absurd (omega arith)
at_each p a (suc n) e s low high = elim (first_or_above a s low) [
  | inl is ↦ ap p is ∙ (and_parts _ _ e).0
  | inr above ↦ at_each p (a + 1) n (and_parts _ _ e).1 s above (omega arith)
]

from_each : (p : ℕ → Bool) (a n : ℕ) → ((s : ℕ) → a ≤ s → s < a + n → p s ≡ true) → list_all p (range_with_len a n) ≡ true
from_each p a zero h = refl
from_each p a (suc n) h = both _ _ (h a (omega arith) (omega arith)) (from_each p (a + 1) n (λ s low high. h s (omega arith) (omega arith)))

on_board : (p : ℕ → Bool) → list_all p squares ≡ true → (s : ℕ) → s < 64 → p s ≡ true
unfolding squares
on_board p e s h = at_each p 0 64 e s (omega arith) (omega arith)

board_by : (p : ℕ → Bool) → ((s : ℕ) → s < 64 → p s ≡ true) → list_all p squares ≡ true
unfolding squares
board_by p h = from_each p 0 64 (λ s low high. h s (omega arith))

-- one more square has passed
pub square_more : (p : ℕ → Bool) (k : ℕ) → k < 64 → p k ≡ true → list_all p (drop (k + 1) squares) ≡ list_all p (drop k squares)
unfolding squares
square_more p k h passes =
    let from_zero : 0 + k ≡ k = omega arith in
    sym (at_drop_more (list_all p) squares k 0 h ∙ ap (λ b. b && list_all p (drop (k + 1) squares)) (ap p (get_or-range_with_len 0 64 k 0 h ∙ from_zero) ∙ passes))

-- one that fails
pub square_fails : (p : ℕ → Bool) (k : ℕ) → k < 64 → p k ≡ false → list_all p (drop k squares) ≡ false
unfolding squares
square_fails p k h fails =
    let from_zero : 0 + k ≡ k = omega arith in
    at_drop_more (list_all p) squares k 0 h ∙ ap (λ b. b && list_all p (drop (k + 1) squares)) (ap p (get_or-range_with_len 0 64 k 0 h ∙ from_zero) ∙ fails)

-- no square is left
pub squares_done : (p : ℕ → Bool) (k : ℕ) → 64 ≤ k → list_all p (drop k squares) ≡ true
unfolding squares
squares_done p k h = ap (list_all p) (drop_all k squares h)

module _ (line first : ℕ → ℕ) (set : ℕ) (inside : (s : ℕ) → s < 64 → first (line s) < 64) (stays : (s : ℕ) → s < 64 → line (first (line s)) ≡ line s) where
  abbrev alike : ℕ → Bool
  alike s = are_alike set s (first (line s))

  abbrev gives : ℕ → ℕ → Bool
  gives s t = cond (line s == line t && is_in set s) (is_in set t) true

  whole_gives : is_whole line set ≡ true → (s t : ℕ) → s < 64 → t < 64 → line s ≡ line t → is_in set s ≡ true → is_in set t ≡ true
  unfolding is_whole
  whole_gives e s t low high one has =
      if_holds _ _ (on_board (gives s) (on_board (λ a. list_all (gives a) squares) e s low) t high) (both _ _ (eq-eqb (line s) (line t) one) has)

  whole_by : ((s t : ℕ) → s < 64 → t < 64 → line s ≡ line t → is_in set s ≡ true → is_in set t ≡ true) → is_whole line set ≡ true
  unfolding is_whole
  whole_by h =
      board_by (λ a. list_all (gives a) squares) (λ s low. board_by (gives s) (λ t high. if_by _ _ (λ e.
      h s t low high (eqb-true (line s) (line t) (and_parts _ _ e).0) (and_parts (line s == line t) _ e).1)))

  to_first : list_all alike squares ≡ true → (s : ℕ) → s < 64 → is_in set s ≡ true → is_in set (first (line s)) ≡ true
  to_first e s h has = alike_on _ _ (on_board alike e s h) has

  from_first : list_all alike squares ≡ true → (s : ℕ) → s < 64 → is_in set (first (line s)) ≡ true → is_in set s ≡ true
  from_first e s h has = alike_back _ _ (on_board alike e s h) has

  whole_by_first : list_all alike squares ≡ is_whole line set
  whole_by_first =
      same _ _
      (λ e. whole_by (λ s t low high one has. from_first e t high (subst (λ l. is_in set (first l) ≡ true) one (to_first e s low has))))
      (λ e. board_by alike (λ s h. alike_by _ _
      (whole_gives e s (first (line s)) h (inside s h) (sym (stays s h)))
      (whole_gives e (first (line s)) s (inside s h) h (stays s h))))

rank_inside : (s : ℕ) → s < 64 → 8 * rank_of s < 64
rank_inside s h = omega arith

rank_stays : (s : ℕ) → s < 64 → rank_of (8 * rank_of s) ≡ rank_of s
rank_stays s h = omega arith

file_inside : (s : ℕ) → s < 64 → file_of s < 64
file_inside s h = omega arith

file_stays : (s : ℕ) → s < 64 → file_of (file_of s) ≡ file_of s
file_stays s h = omega arith

pub whole_ranks : (set : ℕ) → list_all (λ s. are_alike set s (8 * rank_of s)) squares ≡ are_whole_ranks set
whole_ranks set = whole_by_first rank_of (λ rank. 8 * rank) set rank_inside rank_stays

pub whole_files : (set : ℕ) → list_all (λ s. are_alike set s (file_of s)) squares ≡ are_whole_files set
whole_files set = whole_by_first file_of (λ file. file) set file_inside file_stays
