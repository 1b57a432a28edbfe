-- Increasing lists: one more at the end, and one more in its place.
use Rattle.std.proofs.Common.{ltb-true, ltb-false, cond, eq-eqb, ◌≡◌, ◌≢◌, ℕ, zero, suc, ◌+◌, ◌<◌, ◌≤◌, List, [], ◌∷◌, ◌++◌, length, get_or, Bool, true, false, ◌==◌, refl, sym, ap, subst, arith}
use Rattle.std.specs.Prelude.{nat_lt, count_by, if◌then◌else◌}
use Rattle.std.specs.List.Sorted.{IsStrictlyIncreasing}
use Rattle.std.proofs.lemmas.List.Sums.{sum_by-cons}
use Rattle.cq_board.specs.Draws.{times}
use Rattle.cq_board.specs.Views.{put_in, merged}

-- each number of the list is above the one before it, and the first is above x
abbrev pub Rises : ℕ → List ℕ → Type 0
Rises x [] = Unit {0}
Rises x (y ∷ ys) = (x < y) × Rises y ys

abbrev pub IsRising : List ℕ → Type 0
IsRising [] = Unit {0}
IsRising (x ∷ xs) = Rises x xs

-- the element at the next place of a longer list
next_place : (x : ℕ) (ys : List ℕ) (k : ℕ) → get_or (x ∷ ys) (suc k + 1) 0 ≡ get_or ys (k + 1) 0
next_place x ys k = let e : suc k + 1 ≡ suc (k + 1) = omega arith in ap (λ (j : ℕ). get_or (x ∷ ys) j 0) e

second_place : (x : ℕ) (ys : List ℕ) (k : ℕ) → get_or (x ∷ ys) (k + 1) 0 ≡ get_or ys k 0
second_place x ys k = let e : k + 1 ≡ suc k = omega arith in ap (λ (j : ℕ). get_or (x ∷ ys) j 0) e

pub rising : (xs : List ℕ) → IsStrictlyIncreasing xs → IsRising xs
rising [] up = tt
rising (x ∷ []) up = tt
rising (x ∷ y ∷ ys) up = (up 0 (omega arith), rising (y ∷ ys) (λ k within. subst (λ (v : ℕ). get_or (y ∷ ys) k 0 < v) (next_place x (y ∷ ys) k) (up (suc k) (omega arith))))

pub increasing : (xs : List ℕ) → IsRising xs → IsStrictlyIncreasing xs
increasing [] up k within = absurd (omega arith)
increasing (x ∷ []) up k within = absurd (omega arith)
increasing (x ∷ y ∷ ys) up zero within = up.0
increasing (x ∷ y ∷ ys) up (suc k) within = subst (λ (v : ℕ). get_or (y ∷ ys) k 0 < v) (sym (next_place x (y ∷ ys) k)) (increasing (y ∷ ys) up.1 k (omega arith))

abbrev pub one_if : Bool → ℕ
one_if b = cond b 1 0

pub times_cons : (x y : ℕ) (ys : List ℕ) → times x (y ∷ ys) ≡ one_if (y == x) + times x ys
times_cons x y ys = sum_by-cons (λ z. cond (z == x) 1 0) y ys

one_here : (y : ℕ) → one_if (y == y) ≡ 1
one_here y = ap one_if (eq-eqb y y refl)

pub times_first : (y : ℕ) (ys : List ℕ) → 0 < times y (y ∷ ys)
times_first y ys = let e = times_cons y y ys in let h = one_here y in omega arith

pub times_more : (x y : ℕ) (ys : List ℕ) → times x ys ≤ times x (y ∷ ys)
times_more x y ys = let e = times_cons x y ys in omega arith

rises_push : (x : ℕ) (ys : List ℕ) (k : ℕ) → x < k → ((y : ℕ) → 0 < times y ys → y < k) → Rises x ys → Rises x (ys ++ k ∷ [])
rises_push x [] k first all up = (first, tt)
rises_push x (y ∷ ys) k first all up = (up.0, rises_push y ys k (all y (times_first y ys)) (λ z stands. all z (let m = times_more z y ys in omega arith)) up.1)

pub rising_push : (xs : List ℕ) (k : ℕ) → ((y : ℕ) → 0 < times y xs → y < k) → IsRising xs → IsRising (xs ++ k ∷ [])
rising_push [] k all up = tt
rising_push (x ∷ xs) k all up = rises_push x xs k (all x (times_first x xs)) (λ z stands. all z (let m = times_more z x xs in omega arith)) up

-- x, which is not in the list, goes between two numbers
rises_put : (low : ℕ) (ys : List ℕ) (x : ℕ) → low < x → times x ys ≡ 0 → Rises low ys → Rises low (put_in x ys)
rises_put low [] x above apart up = (above, tt)
rises_put low (y ∷ ys) x above apart up = by_order (nat_lt x y) refl (λ after. rises_put y ys x after (let m = times_more x y ys in omega arith) up.1)
  where
    other : x ≢ y
    other e = let f = subst (λ (z : ℕ). 0 < times z (y ∷ ys)) (sym e) (times_first y ys) in omega arith

    by_order : (b : Bool) → nat_lt x y ≡ b → (y < x → Rises y (put_in x ys)) → Rises low (if b then x ∷ y ∷ ys else y ∷ put_in x ys)
    by_order true e later = (above, (ltb-true x y e, up.1))
    by_order false e later = (up.0, later (let h = ltb-false x y e in omega (arith, other)))

pub rising_put : (xs : List ℕ) (x : ℕ) → times x xs ≡ 0 → IsRising xs → IsRising (put_in x xs)
rising_put [] x apart up = tt
rising_put (y ∷ ys) x apart up = by_order (nat_lt x y) refl
  where
    other : x ≢ y
    other e = let f = subst (λ (z : ℕ). 0 < times z (y ∷ ys)) (sym e) (times_first y ys) in omega arith

    by_order : (b : Bool) → nat_lt x y ≡ b → IsRising (if b then x ∷ y ∷ ys else y ∷ put_in x ys)
    by_order true e = (ltb-true x y e, up)
    by_order false e = let h = ltb-false x y e in rises_put y ys x (omega (arith, other)) (let m = times_more x y ys in omega arith) up

-- the count of a list is its count with x put in, less x
pub count_put : (p : ℕ → Bool) (x : ℕ) (xs : List ℕ) → count_by p (put_in x xs) ≡ one_if (p x) + count_by p xs
count_put p x [] = sum_by-cons (λ z. one_if (p z)) x []
count_put p x (y ∷ ys) = by_order (nat_lt x y) (count_put p x ys)
  where
    by_order : (b : Bool) → count_by p (put_in x ys) ≡ one_if (p x) + count_by p ys → count_by p (if b then x ∷ y ∷ ys else y ∷ put_in x ys) ≡ one_if (p x) + count_by p (y ∷ ys)
    by_order true g = sum_by-cons (λ z. one_if (p z)) x (y ∷ ys)
    by_order false g =
        let e = sum_by-cons (λ z. one_if (p z)) y (put_in x ys) in
        let f = sum_by-cons (λ z. one_if (p z)) y ys in omega arith

pub count_merged : (p : ℕ → Bool) (xs ys : List ℕ) → count_by p (merged xs ys) ≡ count_by p xs + count_by p ys
count_merged p [] ys = omega arith
count_merged p (x ∷ xs) ys =
    let e = count_put p x (merged xs ys) in
    let f = sum_by-cons (λ z. one_if (p z)) x xs in
    let g = count_merged p xs ys in omega arith

-- two increasing lists without a common number
pub rising_merged : (xs ys : List ℕ) → ((x : ℕ) → times x xs + times x ys ≤ 1) → IsRising xs → IsRising ys → IsRising (merged xs ys)
rising_merged [] ys apart up more = more
rising_merged (x ∷ xs) ys apart up more =
    let a = apart x in let c = times_cons x x xs in let o = one_here x in let m = count_merged (λ z. z == x) xs ys in
    rising_put (merged xs ys) x (omega arith) (rising_merged xs ys (λ z. let b = apart z in let d = times_more z x xs in omega arith) (tail_rises x xs up) more)
  where
    tail_rises : (x : ℕ) (xs : List ℕ) → Rises x xs → IsRising xs
    tail_rises x [] up = tt
    tail_rises x (y ∷ ys) up = up.1

rises_far : (x : ℕ) (xs : List ℕ) (k : ℕ) → Rises x (xs ++ k ∷ []) → x + length xs < k
rises_far x [] k up = omega (arith, up.0)
rises_far x (y ∷ ys) k up = let r = rises_far y ys k up.1 in omega (arith, up.0)

-- at most k numbers stand before k in an increasing list
pub numbers_before : (xs : List ℕ) (k : ℕ) → IsStrictlyIncreasing (xs ++ k ∷ []) → length xs ≤ k
numbers_before [] k up = omega arith
numbers_before (x ∷ xs) k up = let r = rises_far x xs k (rising (x ∷ xs ++ k ∷ []) up) in omega arith
