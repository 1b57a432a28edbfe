-- A look at each of a list in turn, by its number.
use Rattle.std.proofs.Common.{◌≡◌, ℕ, zero, suc, ◌+◌, ◌≤◌, Bool, true, false, ◌||◌, List, [], ◌∷◌, drop, length, ap, ◌∙◌, Some, add-one}
use Rattle.std.specs.Prelude.{slice_get}
use Rattle.std.specs.List.{list_any}
use Rattle.std.proofs.lemmas.List.{drop_all}

drop_get_suc : {A : Type 0} (xs : List A) (k : ℕ) (x : A) → Some x ≡ slice_get xs k → drop k xs ≡ x ∷ drop (suc k) xs
drop_get_suc [] k x e = cc
drop_get_suc (y ∷ xs) zero x e = cc
drop_get_suc (y ∷ xs) (suc k) x e = drop_get_suc xs k x e

pub drop_get : {A : Type 0} (xs : List A) (k : ℕ) (x : A) → Some x ≡ slice_get xs k → drop k xs ≡ x ∷ drop (k + 1) xs
drop_get xs k x e = rw (add-one) (drop_get_suc xs k x e)

pub any_here : {A : Type 0} (p : A → Bool) (xs : List A) (k : ℕ) (x : A) → Some x ≡ slice_get xs k → p x ≡ true → list_any p (drop k xs) ≡ true
any_here p xs k x e is = ap (list_any p) (drop_get xs k x e) ∙ ap (λ b. b || list_any p (drop (k + 1) xs)) is

pub any_next : {A : Type 0} (p : A → Bool) (xs : List A) (k : ℕ) (x : A) → Some x ≡ slice_get xs k → p x ≡ false → list_any p (drop k xs) ≡ list_any p (drop (k + 1) xs)
any_next p xs k x e is = ap (list_any p) (drop_get xs k x e) ∙ ap (λ b. b || list_any p (drop (k + 1) xs)) is

pub any_end : {A : Type 0} (p : A → Bool) (xs : List A) (k : ℕ) → length xs ≤ k → list_any p (drop k xs) ≡ false
any_end p xs k h = ap (list_any p) (drop_all k xs h)
