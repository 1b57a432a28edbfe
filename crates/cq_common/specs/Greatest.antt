-- The greatest of some numbers.
use Rattle.std.specs.Prelude.{ℕ, ◌≤◌, Bool, true, false, if◌then◌else◌, List, [], ◌∷◌, length, max, Option, Some, None}

-- the greatest number with a property, or none if no number has it
abbrev pub IsGreatest : (ℕ → Type 0) → Option ℕ → Type 0
IsGreatest P None = (k : ℕ) → P k → ⊥
IsGreatest P (Some m) = P m × ((k : ℕ) → P k → k ≤ m)

-- the greatest number after one more candidate, which counts if the flag is true
abbrev pub with_number : Option ℕ → Bool → ℕ → Option ℕ
with_number best false n = best
with_number None true n = Some n
with_number (Some m) true n = Some (max m n)

-- the greatest length of the lists that pass a test, or none if none passes
abbrev pub longer : ℕ → Option ℕ → ℕ
longer n None = n
longer n (Some m) = max n m

abbrev pub longest : (List ℕ → Bool) → List (List ℕ) → Option ℕ
longest test [] = None
longest test (w ∷ ws) = if test w then Some (longer (length w) (longest test ws)) else longest test ws
