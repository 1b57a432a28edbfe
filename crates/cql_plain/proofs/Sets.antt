-- Sets of places made of others, with one more place.
use Rattle.std.proofs.Common.{◌≡◌, ℕ, ◌+◌, ◌<◌, Bool, false, List, [], ◌∷◌, ◌++◌, map, take, length, get_or, refl, sym, ap, ap₂, ◌∙◌, arith}
use Rattle.std.specs.Prelude.{zip}
use Rattle.std.proofs.lemmas.List.{take_more, take_all, length-take-le}
use Rattle.cql_values.proofs.Evaluated.{map_snoc}

pub map_next : (f : Bool → Bool) (xs : List Bool) (k : ℕ) → k < length xs → map f (take k xs) ++ f (get_or xs k false) ∷ [] ≡ map f (take (k + 1) xs)
map_next f xs k low = sym (ap (map f) (take_more xs k false low) ∙ map_snoc f (take k xs) (get_or xs k false))

zip_snoc : (f : Bool × Bool → Bool) (xs ys : List Bool) (x y : Bool) → length ys ≡ length xs → map f (zip (xs ++ x ∷ []) (ys ++ y ∷ [])) ≡ map f (zip xs ys) ++ f (x, y) ∷ []
zip_snoc f [] [] x y e = refl
zip_snoc f [] (b ∷ ys) x y e = absurd (omega arith)
zip_snoc f (a ∷ xs) [] x y e = absurd (omega arith)
zip_snoc f (a ∷ xs) (b ∷ ys) x y e = ap (λ l. f (a, b) ∷ l) (zip_snoc f xs ys x y (omega arith))

module _ (f : Bool × Bool → Bool) (xs ys : List Bool) (k : ℕ) (same : length ys ≡ length xs) where
  pub zip_next : k < length xs → map f (zip (take k xs) (take k ys)) ++ f (get_or xs k false, get_or ys k false) ∷ [] ≡ map f (zip (take (k + 1) xs) (take (k + 1) ys))
  zip_next low =
      let high : k < length ys = omega (arith, same, low) in
      let long = length-take-le k ys (omega (arith, high)) ∙ sym (length-take-le k xs (omega (arith, low))) in
      sym (ap₂ (λ a b. map f (zip a b)) (take_more xs k false low) (take_more ys k false high)
      ∙ zip_snoc f (take k xs) (take k ys) (get_or xs k false) (get_or ys k false) long)

  pub zip_whole : k ≡ length xs → map f (zip (take k xs) (take k ys)) ≡ map f (zip xs ys)
  zip_whole all = ap₂ (λ a b. map f (zip a b)) (take_all k xs (omega (arith, all))) (take_all k ys (omega (arith, all, same)))
