-- Lists with the same elements in one strict order are the same.
use Rattle.std.proofs.Common.{◌≡◌, ◌⊎◌, inl, inr, zero, suc, List, [], ◌∷◌, AllPairs, Contains, refl, sym, ap₂, subst, ◌∙◌, arith}
use Rattle.std.proofs.lemmas.List.Sorted.{Contains-permutation, IsPermutation-sym}
use Rattle.std.specs.List.Sorted.{IsPermutation}

module _ {X : Type 0} (R : X → X → Type 0) (one_way : (a b : X) → R a b → R b a → ⊥) where
  abbrev Within : List X → List X → Type 0
  Within xs ys = (x : X) → Contains xs x → Contains ys x

  in_tail : (x y : X) (ys : List X) → Contains (y ∷ ys) x → (y ≡ x) ⊎ Contains ys x
  in_tail x y ys (zero, inside, is) = inl is
  in_tail x y ys (suc k, inside, is) = inr (k, omega (arith, inside), is)

  to_tail : (x y : X) (ys : List X) → Contains ys x → Contains (y ∷ ys) x
  to_tail x y ys (k, inside, is) = (suc k, omega (arith, inside), is)

  first : (x : X) (xs : List X) → Contains (x ∷ xs) x
  first x xs = (0, omega arith, refl)

  before : (x y : X) (xs : List X) → AllPairs R (x ∷ xs) → Contains xs y → R x y
  before x y xs up (k, inside, is) = subst (R x) is (up 0 (suc k) y (omega arith) (omega (arith, inside)))

  rest : (x : X) (xs : List X) → AllPairs R (x ∷ xs) → AllPairs R xs
  rest x xs up = λ i j d lower inside. up (suc i) (suc j) d (omega (arith, lower)) (omega (arith, inside))

  same_head : (x y : X) (xs ys : List X) → AllPairs R (x ∷ xs) → AllPairs R (y ∷ ys) → Within (x ∷ xs) (y ∷ ys) → Within (y ∷ ys) (x ∷ xs) → x ≡ y
  same_head x y xs ys up higher there back =
      elim (in_tail x y ys (there x (first x xs))) [
        | inl same ↦ sym same
        | inr later ↦ elim (in_tail y x xs (back y (first y ys))) [
          | inl same ↦ same
          | inr earlier ↦ absurd (one_way x y (before x y xs up earlier) (before y x ys higher later))
        ]
      ]

  tails : (x y : X) (xs ys : List X) → x ≡ y → AllPairs R (x ∷ xs) → Within (x ∷ xs) (y ∷ ys) → Within xs ys
  tails x y xs ys same up there = λ z held.
      let after = before x z xs up held in
      elim (in_tail z y ys (there z (to_tail z x xs held))) [
        | inl is ↦ absurd (one_way x z after (subst (λ a. R a x) (same ∙ is) (subst (R x) (sym (same ∙ is)) after)))
        | inr later ↦ later
      ]

  same_list : (xs ys : List X) → AllPairs R xs → AllPairs R ys → Within xs ys → Within ys xs → xs ≡ ys
  same_list [] [] up higher there back = refl
  same_list [] (y ∷ ys) up higher there back = absurd (let found = back y (first y ys) in omega (arith, found.1))
  same_list (x ∷ xs) [] up higher there back = absurd (let found = there x (first x xs) in omega (arith, found.1))
  same_list (x ∷ xs) (y ∷ ys) up higher there back =
      let same = same_head x y xs ys up higher there back in
      ap₂ (λ z zs. z ∷ zs) same
      (same_list xs ys (rest x xs up) (rest y ys higher) (tails x y xs ys same up there) (tails y x ys xs (sym same) higher back))

  pub only_order : (xs ys : List X) → IsPermutation xs ys → AllPairs R xs → AllPairs R ys → xs ≡ ys
  only_order xs ys moves up higher =
      same_list xs ys up higher (λ x. Contains-permutation xs ys x moves) (λ x. Contains-permutation ys xs x (IsPermutation-sym xs ys moves))
