-- The promise of a call for the next batch.
use Rattle.std.specs.Prelude.{◌≡◌, ◌⊎◌, ℕ, ◌+◌, ◌<◌, ◌≤◌, true, false, List, [], ◌++◌, length, Option, Some, None, Result, Ok, Err}
use Rattle.std.specs.Io.KnownBytes.{Consumes, IsAtEnd}
use Rattle.cq_outside.specs.Faults.{Rose}
use Rattle.cq_common.specs.declared.faults.Refusal.{Refusal}
use Rattle.cq_common.specs.declared.faults.Refusal.TheVariants.{Fault, NoMemory as IsNoMemory}
use Rattle.pgn_batches.specs.declared.batch.Batch.{Batch}
use Rattle.pgn_batches.specs.declared.state.Batches.{Batches}
use Rattle.pgn_batches.specs.declared.state.BatchFault.{BatchFault}
use Rattle.pgn_batches.specs.declared.state.BatchFault.TheVariants.{ReadFault, ArchiveTooLong}
use Rattle.pgn_batches.specs.Batching.{batches, full_batches}
use Rattle.pgn_batches.specs.Queues.{IsNextBatch, IsBatchAt}
use Rattle.pgn_batches.specs.Streams.{Stands}
use Rattle.pgn_batches.specs.Filling.{IsNeeded}
use Rattle.pgn_batches.specs.Whole.{closed_games, cut_games}

-- some bytes were taken, and `Given` holds of the bytes and of the number of batches that were given before
pub record Moves (was now : Batches) (left left_after : Option (List ℕ)) (Given : List ℕ → ℕ → Type 0) : Type 0 where
  pub bytes : List ℕ
  pub takes : Consumes left left_after bytes
  pub limit : now.limit ≡ was.limit
  pub at_end : now.ended ≡ true → IsAtEnd left_after
  pub stays : was.ended ≡ true → (bytes ≡ []) × (now.ended ≡ true)
  pub within : (front : List ℕ) (m : ℕ) → Stands was front m → now.ended ≡ true
      → (was.ended ≡ true) ⊎ (length (front ++ bytes) ≤ was.limit)
  pub few : (front : List ℕ) (m : ℕ) → Stands was front m → length (front ++ bytes) ≤ was.limit + 1
  pub needed : (front : List ℕ) (m : ℕ) → Stands was front m → IsNeeded front bytes m
  pub given : (front : List ℕ) (m : ℕ) → Stands was front m → Given (front ++ bytes) m

-- the batch with number `m`: a full one of the closed games, or one of all games if the end was read
pub record GivesBatch (now : Batches) (batch : Batch) (front : List ℕ) (m : ℕ) : Type 0 where
  pub is : IsNextBatch (closed_games front) m batch ⊎ (IsBatchAt (cut_games front) m batch × (now.ended ≡ true))
  pub stands : Stands now front (m + 1)

pub record HasGivenAll (now : Batches) (front : List ℕ) (m : ℕ) : Type 0 where
  pub all : length (batches (cut_games front)) ≡ m
  pub ended : now.ended ≡ true
  pub stands : Stands now front m

-- all full batches of the bytes taken were given
pub record HasGivenFull (was : Batches) (AreTaken : ℕ → Type 0) (front : List ℕ) (m : ℕ) : Type 0 where
  pub all : length (full_batches (closed_games front)) ≡ m
  pub reads : was.ended ≡ false
  pub taken : AreTaken (length front)

abbrev pub IsNextResult : Batches → Batches → Option (List ℕ) → Option (List ℕ) → Result (Option Batch) (Refusal BatchFault)
    → Type 0
IsNextResult was now left left_after (Ok (Some batch)) = Moves was now left left_after (GivesBatch now batch)
IsNextResult was now left left_after (Ok None) = Moves was now left left_after (HasGivenAll now)
IsNextResult was now left left_after (Err (Fault ReadFault)) = Moves was now left left_after (HasGivenFull was (λ n. n ≤ was.limit))
IsNextResult was now left left_after (Err (Fault ArchiveTooLong)) = Moves was now left left_after (HasGivenFull was (λ n. was.limit < n))
IsNextResult was now left left_after (Err IsNoMemory) = Moves was now left left_after (λ front m. Unit {0})

-- the count of the source's faults around a call: it rose if a read failed, and is the same otherwise
abbrev pub HasBatchCause : ℕ → ℕ → Result (Option Batch) (Refusal BatchFault) → Type 0
HasBatchCause before now (Ok _) = now ≡ before
HasBatchCause before now (Err (Fault ReadFault)) = (before ≤ now) × Rose before now
HasBatchCause before now (Err (Fault ArchiveTooLong)) = now ≡ before
HasBatchCause before now (Err IsNoMemory) = now ≡ before
