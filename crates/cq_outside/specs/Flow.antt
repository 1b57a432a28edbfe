-- The effects of calls on the bytes left in a source and the bytes taken by a sink, if they are told.
use Rattle.std.specs.Prelude.{◌≡◌, ℕ, ◌≤◌, List, [], ◌++◌, length, take, Option, None, Some, Result, MatchResult}
use Rattle.std.specs.Io.KnownBytes.{Consumes}
use Rattle.cq_common.specs.declared.faults.Refusal.{Refusal}
use Rattle.cq_common.specs.declared.faults.Refusal.TheVariants.{Fault, NoMemory}

-- A sink that tells its bytes after a call also told them before it. The bytes told have gained these at their end.
abbrev pub Grew : Option (List ℕ) → Option (List ℕ) → List ℕ → Type 0
Grew old None bytes = Unit {0}
Grew None (Some new) bytes = ⊥
Grew (Some old) (Some new) bytes = new ≡ old ++ bytes

-- the effect of one write of these bytes: the first n were taken if the result is n, and none if the write failed
abbrev pub WriteTakes : {E : Type 0} → Option (List ℕ) → Option (List ℕ) → Result ℕ E → List ℕ → Type 0
WriteTakes old new result bytes =
    MatchResult result (λ n. Grew old new (take n bytes)) (λ _. Grew old new [])

-- at most so many bytes were taken from a source
pub record TakesAtMost (most : ℕ) (old new : Option (List ℕ)) : Type 0 where
  pub bytes : List ℕ
  pub takes : Consumes old new bytes
  pub few : length bytes ≤ most

-- the most bytes that a failed call can have taken, after a fault or if memory ran out
abbrev pub most_taken : {F : Type 0} → Refusal F → ℕ → ℕ → ℕ
most_taken (Fault _) fault memory = fault
most_taken NoMemory fault memory = memory
