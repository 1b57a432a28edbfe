-- The steps of a call for the next batch.
use Rattle.std.specs.Prelude.{◌≡◌, ◌⊎◌, ℕ, ◌+◌, ◌-◌, ◌<◌, ◌≤◌, true, false, List, [], ◌++◌, length, take, Option, Result, Ok, Err}
use Rattle.std.specs.Io.KnownBytes.{Consumes, IsAtEnd}
use Rattle.cq_common.specs.declared.faults.Refusal.{Refusal}
use Rattle.cq_common.specs.declared.faults.Refusal.TheVariants.{Fault, NoMemory as IsNoMemory}
use Rattle.pgn_batches.specs.declared.state.Batches.{Batches}
use Rattle.pgn_batches.specs.Batching.{batches, full_batches}
use Rattle.pgn_batches.specs.Streams.{Stands}
use Rattle.pgn_batches.specs.Whole.{closed_games}

-- the largest number of bytes of a read
abbrev pub most_read : ℕ
most_read = 65536

-- a piece was taken, an empty one at the end
pub record IsPieceTaken (was now : Batches) (piece : List ℕ) : Type 0 where
  pub stands : (front : List ℕ) (m : ℕ) → Stands was front m → Stands now (front ++ piece) m
  pub at_end : now.ended ≡ true → length piece ≡ 0
  pub some : now.ended ≡ false → 0 < length piece
  pub limit : now.limit ≡ was.limit
  pub count : now.taken ≡ was.taken + length piece
  pub low : now.ended ≡ true → now.taken ≤ now.limit

-- a read took a piece, or came to the end
pub record HasRead (was now : Batches) (left left_after : Option (List ℕ)) : Type 0 where
  pub piece : List ℕ
  pub takes : Consumes left left_after piece
  pub short : length piece ≤ most_read
  pub stands : (front : List ℕ) (m : ℕ) → Stands was front m → Stands now (front ++ piece) m
  pub at_end : now.ended ≡ true → IsAtEnd left_after
  pub some : now.ended ≡ false → 0 < length piece
  pub limit : now.limit ≡ was.limit
  pub count : now.taken ≡ was.taken + length piece
  pub low : now.ended ≡ true → now.taken ≤ now.limit

-- if bytes were taken, the batches given were all that the bytes before the last read fill
abbrev pub IsNeeded : List ℕ → List ℕ → ℕ → Type 0
IsNeeded front bytes m = 0 < length bytes
    → length (full_batches (closed_games (take (length (front ++ bytes) - most_read) (front ++ bytes)))) ≤ m

-- some reads were made, each when no batch was full
pub record HasFilled (was now : Batches) (left left_after : Option (List ℕ)) : Type 0 where
  pub bytes : List ℕ
  pub takes : Consumes left left_after bytes
  pub limit : now.limit ≡ was.limit
  pub at_end : now.ended ≡ true → IsAtEnd left_after
  pub stays : was.ended ≡ true → (bytes ≡ []) × (now.ended ≡ true)
  pub low : now.ended ≡ true → (was.ended ≡ true) ⊎ (now.taken ≤ now.limit)
  pub stands : (front : List ℕ) (m : ℕ) → Stands was front m → Stands now (front ++ bytes) m × IsNeeded front bytes m

-- a read after which the call ran out of memory
pub record HasReadLost (was now : Batches) (left left_after : Option (List ℕ)) : Type 0 where
  pub piece : List ℕ
  pub takes : Consumes left left_after piece
  pub short : length piece ≤ most_read
  pub room : was.taken + length piece ≤ was.limit + 1
  pub limit : now.limit ≡ was.limit
  pub reads : now.ended ≡ false

-- the same after some reads
pub record HasLost (was now : Batches) (left left_after : Option (List ℕ)) : Type 0 where
  pub bytes : List ℕ
  pub takes : Consumes left left_after bytes
  pub limit : now.limit ≡ was.limit
  pub reads : now.ended ≡ false
  pub before : was.ended ≡ false
  pub stands : (front : List ℕ) (m : ℕ) → Stands was front m → (length (front ++ bytes) ≤ was.limit + 1) × IsNeeded front bytes m

-- a call that failed by its source, or out of memory
abbrev pub OnFault : {A F : Type 0} → Result A (Refusal F) → Type 0 → Type 0
OnFault (Ok _) X = Unit {0}
OnFault (Err (Fault _)) X = X
OnFault (Err IsNoMemory) X = Unit {0}

abbrev pub OnMemory : {A F : Type 0} → Result A (Refusal F) → Type 0 → Type 0
OnMemory (Ok _) X = Unit {0}
OnMemory (Err (Fault _)) X = Unit {0}
OnMemory (Err IsNoMemory) X = X
