-- Searches in the rest of a list.
use Rattle.std.proofs.Common.{◌≡◌, ℕ, ◌+◌, ◌<◌, Bool, false, List, ◌∷◌, drop, length, get_or, refl, sym, ap, ◌∙◌}
use Rattle.std.specs.Prelude.{find}
use Rattle.std.proofs.lemmas.List.{drop_more}

passed : {A : Type 0} (p : A → Bool) (x : A) (xs : List A) (b : Bool) → p x ≡ b → b ≡ false → find p xs ≡ find p (x ∷ xs)
passed p x xs b e f = let g = e ∙ f in rw g refl

-- an item that does not pass is not found
pub find_on : {A : Type 0} (p : A → Bool) (xs : List A) (i : ℕ) (d : A) → i < length xs → p (get_or xs i d) ≡ false → find p (drop (i + 1) xs) ≡ find p (drop i xs)
find_on p xs i d lt e = passed p (get_or xs i d) (drop (i + 1) xs) false e refl ∙ ap (find p) (sym (drop_more xs i d lt))
