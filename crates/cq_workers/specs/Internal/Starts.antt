-- Calls of a function at elements that are numbered from i on, in the form that the private functions use.
use Rattle.std.specs.Prelude.{◌≡◌, ℕ, ◌+◌, List, [], ◌∷◌, ⊤}
use denote.Ref.{MutBor}
use denote.Param.Members.{Shared}
use Rattle.std.specs.Fork.{AcceptsAt, ChangesAt}

module _ {F T : Type 0} (g : Shared F (ℕ × (MutBor T × Unit {0})) ((Unit {0}) × (MutBor T × Unit {0}))) (f : F) where
  -- the function may be called at each
  abbrev pub AcceptsFrom : ℕ → List T → Type 0
  AcceptsFrom i [] = ⊤
  AcceptsFrom i (x ∷ xs) = AcceptsAt g f i x × AcceptsFrom (i + 1) xs

  -- A call with i and a `&mut` to x may leave y there. Proofs keep this name folded.
  unfoldable pub MayLeave : ℕ → T → T → Type 0
  MayLeave i x y = ChangesAt g f i x y

  -- calls at all of them may leave these
  abbrev pub ChangesFrom : ℕ → List T → List T → Type 0
  ChangesFrom i [] ys = ys ≡ []
  ChangesFrom i (x ∷ xs) ys = (y : T) × (rest : List T) × (ys ≡ y ∷ rest) × MayLeave i x y × ChangesFrom (i + 1) xs rest
