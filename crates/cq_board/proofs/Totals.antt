-- Totals over the views of all seats, after a change of one of them.
use Rattle.std.proofs.Common.{◌≡◌, ◌≢◌, ℕ, zero, suc, ◌+◌, ◌≤◌, List, [], ◌∷◌, map, set, refl, sym, ap, arith}
use Rattle.std.specs.Prelude.{sum_by}
use mathlib.Core.Option.{some, some-injective, some-ne-none}
use lib.ListN.{get_elem?}
use Rattle.std.proofs.lemmas.List.Sums.{sum_by-cons}

module _ {V : Type 0} where
  pub sum_set : (f : V → ℕ) (views : List V) (id : ℕ) (v w : V) → get_elem? views id ≡ some v → sum_by f (set views id w) + f v ≡ sum_by f views + f w
  sum_set f [] id v w at = absurd (some-ne-none v (sym at))
  sum_set f (x ∷ xs) zero v w at =
      let e = sum_by-cons f x xs in let g = sum_by-cons f w xs in let h : f x ≡ f v = ap f (some-injective x v at) in omega arith
  sum_set f (x ∷ xs) (suc id) v w at =
      let e = sum_by-cons f x xs in let g = sum_by-cons f x (set xs id w) in let h = sum_set f xs id v w at in omega arith

  pub one_of_sum : (f : V → ℕ) (views : List V) (id : ℕ) (v : V) → get_elem? views id ≡ some v → f v ≤ sum_by f views
  one_of_sum f [] id v at = absurd (some-ne-none v (sym at))
  one_of_sum f (x ∷ xs) zero v at = let e = sum_by-cons f x xs in let h : f x ≡ f v = ap f (some-injective x v at) in omega arith
  one_of_sum f (x ∷ xs) (suc id) v at = let e = sum_by-cons f x xs in let h = one_of_sum f xs id v at in omega arith

  pub sum_rises : (f g : V → ℕ) → ((v : V) → f v ≤ g v) → (views : List V) → sum_by f views ≤ sum_by g views
  sum_rises f g less [] = omega arith
  sum_rises f g less (x ∷ xs) =
      let e = sum_by-cons f x xs in let h = sum_by-cons g x xs in let l = less x in let r = sum_rises f g less xs in omega arith

  pub two_of_sum : (f : V → ℕ) (views : List V) (i j : ℕ) (v w : V) → i ≢ j → get_elem? views i ≡ some v → get_elem? views j ≡ some w → f v + f w ≤ sum_by f views
  two_of_sum f [] i j v w apart at there = absurd (some-ne-none v (sym at))
  two_of_sum f (x ∷ xs) zero zero v w apart at there = absurd (apart refl)
  two_of_sum f (x ∷ xs) zero (suc j) v w apart at there =
      let e = sum_by-cons f x xs in let h : f x ≡ f v = ap f (some-injective x v at) in let o = one_of_sum f xs j w there in omega arith
  two_of_sum f (x ∷ xs) (suc i) zero v w apart at there =
      let e = sum_by-cons f x xs in let h : f x ≡ f w = ap f (some-injective x w there) in let o = one_of_sum f xs i v at in omega arith
  two_of_sum f (x ∷ xs) (suc i) (suc j) v w apart at there =
      let e = sum_by-cons f x xs in let h = two_of_sum f xs i j v w (λ same. apart (ap suc same)) at there in omega arith

  pub sum_map : {W : Type 0} (f : W → ℕ) (g : V → W) (views : List V) → sum_by f (map g views) ≡ sum_by (λ v. f (g v)) views
  sum_map f g [] = refl
  sum_map f g (x ∷ xs) = let e = sum_by-cons f (g x) (map g xs) in let h = sum_by-cons (λ v. f (g v)) x xs in let r = sum_map f g xs in omega arith

  pub at_mapped : {W : Type 0} (g : V → W) (views : List V) (id : ℕ) (y : W) → get_elem? (map g views) id ≡ some y → (v : V) × (get_elem? views id ≡ some v) × (g v ≡ y)
  at_mapped g [] id y at = absurd (some-ne-none y (sym at))
  at_mapped g (x ∷ xs) zero y at = (x, refl, some-injective (g x) y at)
  at_mapped g (x ∷ xs) (suc id) y at = at_mapped g xs id y at

  -- if g is 0, f is 0
  abbrev Follows : (f g : V → ℕ) (views : List V) → Type 0
  Follows f g views = (id : ℕ) (v : V) → get_elem? views id ≡ some v → g v ≡ 0 → f v ≡ 0

  nothing_left : (f g : V → ℕ) (views : List V) → Follows f g views → sum_by g views ≡ 0 → sum_by f views ≡ 0
  nothing_left f g [] follows none = refl
  nothing_left f g (x ∷ xs) follows none =
      let e = sum_by-cons f x xs in let h = sum_by-cons g x xs in let z = follows 0 x refl (omega arith) in
      let r = nothing_left f g xs (λ id v at. follows (suc id) v at) (omega arith) in omega arith

  -- a view that has all of g has all of f
  pub has_all : (f g : V → ℕ) (views : List V) (id : ℕ) (v : V) → get_elem? views id ≡ some v → Follows f g views → sum_by g views ≡ g v → sum_by f views ≡ f v
  has_all f g [] id v at follows all = absurd (some-ne-none v (sym at))
  has_all f g (x ∷ xs) zero v at follows all =
      let e = sum_by-cons f x xs in let h = sum_by-cons g x xs in
      let a : f x ≡ f v = ap f (some-injective x v at) in let b : g x ≡ g v = ap g (some-injective x v at) in
      let r = nothing_left f g xs (λ id v at. follows (suc id) v at) (omega arith) in omega arith
  has_all f g (x ∷ xs) (suc id) v at follows all =
      let e = sum_by-cons f x xs in let h = sum_by-cons g x xs in let o = one_of_sum g xs id v at in
      let z = follows 0 x refl (omega arith) in let r = has_all f g xs id v at (λ id v at. follows (suc id) v at) (omega arith) in omega arith
