-- The first number that passes a test.
use Rattle.std.proofs.Common.{◌≡◌, ℕ, zero, suc, ◌+◌, ◌<◌, ◌≤◌, Bool, true, false, cond, [], ◌∷◌, ◌++◌, Option, Some, None, refl, sym, ap, ap₂, ◌∙◌, arith}
use Rattle.std.specs.Option.{is_some}
use Rattle.std.specs.List.{find, range_with_len}

pub find_agree : (f g : ℕ → Bool) (a n : ℕ) → ((m : ℕ) → a ≤ m → m < a + n → f m ≡ g m) → find f (range_with_len a n) ≡ find g (range_with_len a n)
find_agree f g a zero same = refl
find_agree f g a (suc n) same =
    ap₂ (λ t r. cond t (Some a) r) (same a (omega arith) (omega arith)) (find_agree f g (a + 1) n (λ m low high. same m (omega (arith, low)) (omega (arith, high))))

pub find_none : (f : ℕ → Bool) (a n : ℕ) → ((m : ℕ) → a ≤ m → m < a + n → f m ≡ false) → find f (range_with_len a n) ≡ None
find_none f a zero none = refl
find_none f a (suc n) none =
    ap₂ (λ t r. cond t (Some a) r) (none a (omega arith) (omega arith)) (find_none f (a + 1) n (λ m low high. none m (omega (arith, low)) (omega (arith, high))))

some_by : (t : Bool) (a : ℕ) (r : Option ℕ) → (t ≡ false → is_some r ≡ true) → is_some (cond t (Some a) r) ≡ true
some_by true a r later = refl
some_by false a r later = later refl

pub find_some : (f : ℕ → Bool) (a n k : ℕ) → a ≤ k → k < a + n → f k ≡ true → is_some (find f (range_with_len a n)) ≡ true
find_some f a zero k low high yes_ = absurd (omega (arith, low, high))
find_some f a (suc n) k low high yes_ =
    some_by (f a) a (find f (range_with_len (a + 1) n))
    (λ not_. find_some f (a + 1) n k (let differ : (a ≡ k → ⊥) = λ is. (let e : false ≡ true = sym not_ ∙ ap f is ∙ yes_ in cc) in omega (arith, low, differ)) (omega (arith, high)) yes_)

pub range_more : (a n : ℕ) → range_with_len a (suc n) ≡ range_with_len a n ++ (a + n) ∷ []
range_more a zero = ap (λ x. x ∷ []) (let e : a ≡ a + 0 = omega arith in e)
range_more a (suc n) = ap (λ l. a ∷ l) (range_more (a + 1) n ∙ ap (λ x. range_with_len (a + 1) n ++ x ∷ []) (let e : a + 1 + n ≡ a + suc n = omega arith in e))

within_by : (t : Bool) (a n k : ℕ) (r : Option ℕ) → (r ≡ Some k → k < a + suc n) → cond t (Some a) r ≡ Some k → k < a + suc n
within_by true a n k r later e = let same : a ≡ k = cc in omega (arith, same)
within_by false a n k r later e = later e

pub find_within : (f : ℕ → Bool) (a n k : ℕ) → find f (range_with_len a n) ≡ Some k → k < a + n
find_within f a zero k is = absurd cc
find_within f a (suc n) k is = within_by (f a) a n k (find f (range_with_len (a + 1) n)) (λ e. let less = find_within f (a + 1) n k e in omega (arith, less)) is
