-- Tests that some number of a range passes, or some square of the board.
use Rattle.std.proofs.Common.{◌≡◌, ℕ, zero, suc, ◌+◌, ◌<◌, ◌≤◌, inl, inr, Bool, true, false, ◌&&◌, ◌||◌, List, [], ◌∷◌, ◌++◌, map, sum_by, refl, sym, ap, ◌∙◌, arith, add-one}
use Rattle.std.specs.Prelude.{if◌then◌else◌}
use Rattle.std.specs.List.{list_any, list_all, range_with_len}
use Rattle.std.proofs.Math.Bool.{or-false, or_assoc}
use Rattle.std.proofs.lemmas.Bool.{cases_lt}
use Rattle.std.proofs.lemmas.List.Folds.{Any-from_list_any}
use Rattle.std.proofs.lemmas.List.Sums.{sum_by_push}
use Rattle.std.proofs.lemmas.List.FromFn.{get_or-range_with_len, length-range_with_len}
use Rattle.cq_geometry.specs.Squares.{squares}

pub same_truth : (a b : Bool) → (a ≡ true → b ≡ true) → (b ≡ true → a ≡ true) → a ≡ b
same_truth true b f g = sym (f refl)
same_truth false true f g = g refl
same_truth false false f g = refl

pub left : (a b : Bool) → (a && b) ≡ true → a ≡ true
left true b e = refl
left false b e = e

pub right : (a b : Bool) → (a && b) ≡ true → b ≡ true
right true b e = e
right false b e = cc

pub both : (a b : Bool) → a ≡ true → b ≡ true → (a && b) ≡ true
both a b e f = rw e f

-- a number of a range that passes
pub record InRange (p : ℕ → Bool) (a n : ℕ) : Type 0 where
  pub k : ℕ
  pub low : a ≤ k
  pub high : k < a + n
  pub passes : p k ≡ true

pub from_range : (p : ℕ → Bool) (a n : ℕ) → list_any p (range_with_len a n) ≡ true → InRange p a n
from_range p a n e =
    let found = Any-from_list_any p (range_with_len a n) e in
    let len = length-range_with_len a n in
    let below : found.0 < n = omega (arith, found.2) in
    let at : found.1 ≡ a + found.0 = sym found.3 ∙ get_or-range_with_len a n found.0 found.1 below in
    record { k = found.1; low = omega (arith, at); high = omega (arith, at, below); passes = found.4 }

pub in_range : (p : ℕ → Bool) (a n k : ℕ) → a ≤ k → k < a + n → p k ≡ true → list_any p (range_with_len a n) ≡ true
in_range p a zero k low high e = absurd (omega (arith, low, high))
in_range p a (suc n) k low high e = elim (cases_lt a k) [
  | inl more ↦ ap (λ b. p a || b) (in_range p (a + 1) n k (omega (arith, more)) (omega (arith, high)) e) ∙ or_true (p a)
  | inr here ↦ let same : a ≡ k = omega (arith, low, here) in ap (λ b. b || list_any p (range_with_len (a + 1) n)) (ap p same ∙ e)
]
  where
    or_true : (b : Bool) → (b || true) ≡ true
    or_true true = refl
    or_true false = refl

-- a square that passes
pub some_square : (test : ℕ → Bool) (s : ℕ) → s < 64 → test s ≡ true → list_any test squares ≡ true
unfolding squares
some_square test s low e = in_range test 0 64 s (omega arith) (omega (arith, low)) e

pub square_found : (test : ℕ → Bool) → list_any test squares ≡ true → InRange test 0 64
unfolding squares
square_found test e = from_range test 0 64 e

-- tests that agree on the board
pub same_any : (p q : ℕ → Bool) → ((s : ℕ) → s < 64 → p s ≡ q s) → list_any p squares ≡ list_any q squares
same_any p q same = same_truth (list_any p squares) (list_any q squares)
    (λ e. let f = square_found p e in some_square q f.k (omega (arith, f.high)) (sym (same f.k (omega (arith, f.high))) ∙ f.passes))
    (λ e. let f = square_found q e in some_square p f.k (omega (arith, f.high)) (same f.k (omega (arith, f.high)) ∙ f.passes))

-- one number more
any_last_from : (p : ℕ → Bool) (a n : ℕ) → list_any p (range_with_len a (suc n)) ≡ (list_any p (range_with_len a n) || p (a + n))
any_last_from p a zero = let e : a + 0 ≡ a = omega arith in rw e (or-false (p a))
any_last_from p a (suc n) =
    let e : a + 1 + n ≡ a + suc n = omega arith in
    ap (λ b. p a || b) (any_last_from p (a + 1) n) ∙ sym (or_assoc (p a) (list_any p (range_with_len (a + 1) n)) (p (a + 1 + n))) ∙ ap (λ j. (p a || list_any p (range_with_len (a + 1) n)) || p j) e

pub any_last : (p : ℕ → Bool) (n : ℕ) → list_any p (range_with_len 0 (n + 1)) ≡ (list_any p (range_with_len 0 n) || p n)
any_last p n = let e : 0 + n ≡ n = omega arith in rw (add-one) (any_last_from p 0 n ∙ ap (λ j. list_any p (range_with_len 0 n) || p j) e)

pub any_mapped : {A B : Type 0} (p : B → Bool) (f : A → B) (xs : List A) → list_any p (map f xs) ≡ list_any (λ x. p (f x)) xs
any_mapped p f [] = refl
any_mapped p f (x ∷ xs) = ap (λ r. p (f x) || r) (any_mapped p f xs)

pub all_mapped : {A B : Type 0} (p : B → Bool) (f : A → B) (xs : List A) → list_all p (map f xs) ≡ list_all (λ x. p (f x)) xs
all_mapped p f [] = refl
all_mapped p f (x ∷ xs) = ap (λ r. p (f x) && r) (all_mapped p f xs)

range_snoc : (a n : ℕ) → range_with_len a (suc n) ≡ range_with_len a n ++ (a + n) ∷ []
range_snoc a zero = let e : a ≡ a + 0 = omega arith in ap (λ k. k ∷ []) e
range_snoc a (suc n) = let e : a + 1 + n ≡ a + suc n = omega arith in ap (λ l. a ∷ l) (range_snoc (a + 1) n ∙ ap (λ k. range_with_len (a + 1) n ++ k ∷ []) e)

pub range_last : (n : ℕ) → range_with_len 0 (n + 1) ≡ range_with_len 0 n ++ n ∷ []
range_last n = let e : 0 + n ≡ n = omega arith in rw (add-one) (range_snoc 0 n ∙ ap (λ k. range_with_len 0 n ++ k ∷ []) e)

pub sum_last : (f : ℕ → ℕ) (n : ℕ) → sum_by f (range_with_len 0 (n + 1)) ≡ sum_by f (range_with_len 0 n) + f n
sum_last f n = ap (sum_by f) (range_last n) ∙ sum_by_push f (range_with_len 0 n) n

pub at_most_one : (b : Bool) → (if b then 1 else 0) ≤ 1
at_most_one true = omega arith
at_most_one false = omega arith
