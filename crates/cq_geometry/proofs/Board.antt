-- The squares of the board as a list, and those that pass a test.
use Rattle.std.proofs.Common.{◌≡◌, ℕ, zero, suc, ◌+◌, ◌-◌, ◌<◌, ◌≤◌, Bool, true, false, cond, List, [], ◌∷◌, ap, sym, ◌∙◌, subst, arith}
use Rattle.std.specs.List.{All, Contains, filter, range_with_len}
use Rattle.std.specs.List.Sorted.{IsStrictlyIncreasing}
use Rattle.std.proofs.lemmas.List.FromFn.{get_or-range_with_len, length-range_with_len}
use Rattle.std.proofs.lemmas.List.Elements.{All-filter, Contains-append_right}
use Rattle.std.proofs.lemmas.List.Kept.{IsStrictlyIncreasing-filter}
use Rattle.cq_geometry.specs.Squares.{squares}

range_below : (a n : ℕ) → All (λ s. s < a + n) (range_with_len a n)
range_below a n k d h =
    let below : k < n = omega (arith, length-range_with_len a n) in
    omega (arith, get_or-range_with_len a n k d below)

range_rises : (a n : ℕ) → IsStrictlyIncreasing (range_with_len a n)
range_rises a n k h =
    let below : k + 1 < n = omega (arith, length-range_with_len a n) in
    let here : k < n = omega arith in
    omega (arith, get_or-range_with_len a n k 0 here, get_or-range_with_len a n (k + 1) 0 below)

in_range : (a n s : ℕ) → a ≤ s → s < a + n → Contains (range_with_len a n) s
in_range a n s h k =
    let below : s - a < n = omega arith in
    (s - a, omega (arith, length-range_with_len a n), omega (arith, get_or-range_with_len a n (s - a) s below))

pub squares_board : All (λ s. s < 64) squares
unfolding squares
squares_board = range_below 0 64

pub squares_rise : IsStrictlyIncreasing squares
unfolding squares
squares_rise = range_rises 0 64

pub in_squares : (s : ℕ) → s < 64 → Contains squares s
unfolding squares
in_squares s h = in_range 0 64 s (omega arith) h

contains_rest : {X : Type 0} (p : X → Bool) (y : X) (ys : List X) (x : X)
    → Contains (filter p ys) x → Contains (filter p (y ∷ ys)) x
contains_rest p y ys x h =
    elim (p y) as (λ b. Contains (cond b (y ∷ filter p ys) (filter p ys)) x) [
      | true ↦ Contains-append_right (y ∷ []) (filter p ys) x h
      | false ↦ h
    ]

contains_first : {X : Type 0} (p : X → Bool) (y : X) (ys : List X) (x : X)
    → y ≡ x → p x ≡ true → Contains (filter p (y ∷ ys)) x
contains_first {X} p y ys x e t =
    let passes : p y ≡ true = ap p e ∙ t in
    let kept : filter p (y ∷ ys) ≡ y ∷ filter p ys = ap (λ b. cond b (y ∷ filter p ys) (filter p ys)) passes in
    subst (λ (xs : List X). Contains xs x) (sym kept) (0, omega arith, e)

-- a filter keeps each element that passes its test
pub contains_filter : {X : Type 0} (p : X → Bool) (xs : List X) (x : X)
    → Contains xs x → p x ≡ true → Contains (filter p xs) x
contains_filter p [] x (k, h, e) t = absurd (omega (arith, h))
contains_filter p (y ∷ ys) x (zero, h, e) t = contains_first p y ys x e t
contains_filter p (y ∷ ys) x (suc k, h, e) t = contains_rest p y ys x (contains_filter p ys x (k, omega (arith, h), e) t)

-- a square of the board that passes a test is among those that the test keeps
pub in_kept_squares : (p : ℕ → Bool) (s : ℕ) → s < 64 → p s ≡ true → Contains (filter p squares) s
in_kept_squares p s h t = contains_filter p squares s (in_squares s h) t

pub kept_squares_board : (p : ℕ → Bool) → All (λ s. s < 64) (filter p squares)
kept_squares_board p = All-filter p (λ s. s < 64) squares squares_board

pub kept_squares_rise : (p : ℕ → Bool) → IsStrictlyIncreasing (filter p squares)
kept_squares_rise p = IsStrictlyIncreasing-filter p squares squares_rise
