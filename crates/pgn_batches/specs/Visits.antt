-- Visits of the batches of an archive, one after the other.
use Rattle.std.specs.Prelude.{◌≡◌, ◌⊎◌, ℕ, ◌+◌, ◌-◌, ◌<◌, ◌≤◌, List, [], ◌++◌, length, take, Option, Some, None, Result, Ok, Err}
use Rattle.std.specs.Io.KnownBytes.{Consumes, IsAtEnd}
use Rattle.cq_outside.specs.Faults.{Rose}
use Rattle.cq_common.specs.declared.faults.Refusal.{Refusal}
use Rattle.cq_common.specs.declared.faults.Refusal.TheVariants.{Fault, NoMemory as IsNoMemory}
use Rattle.pgn_batches.specs.declared.visits.VisitEnd.{VisitEnd}
use Rattle.pgn_batches.specs.declared.visits.VisitEnd.TheVariants.{All, Early}
use Rattle.pgn_batches.specs.declared.state.BatchFault.{BatchFault}
use Rattle.pgn_batches.specs.declared.state.BatchFault.TheVariants.{ReadFault, ArchiveTooLong}
use Rattle.pgn_batches.specs.Filling.{most_read}
use Rattle.pgn_batches.specs.KeptGames.{KeptGames}
use Rattle.pgn_batches.specs.Whole.{cut_games, whole}

-- a visitor and its two sinks at one moment
pub record Moment (T O E : Type 0) : Type 0 where
  pub visitor : T
  pub out : O
  pub err : E

abbrev pub moment : {T O E : Type 0} → T → O → E → Moment T O E
moment visitor out err = record { visitor = visitor; out = out; err = err }

-- the games of the next batch were visited, or the visitor stopped at them
abbrev pub HasVisited : {X : Type 0} → (KeptGames → Type 0) → (KeptGames → KeptGames → X → Type 0) → (games batch : KeptGames)
    → Option X → Type 0
HasVisited Taken Stopped games batch None = Taken (games ++ batch)
HasVisited Taken Stopped games batch (Some stop) = Stopped games batch stop

-- games are the first ones of others
abbrev pub AreLeadingGames : KeptGames → KeptGames → Type 0
AreLeadingGames games all = (rest : KeptGames) × (all ≡ games ++ rest)

-- these bytes were read, at most one more than the limit
pub record Reads (limit : ℕ) (left left_after : Option (List ℕ)) (front : List ℕ) : Type 0 where
  pub takes : Consumes left left_after front
  pub few : length front ≤ limit + 1

-- an archive was read to its end, within the limit
pub record ReadsAll (limit : ℕ) (left left_after : Option (List ℕ)) (archive : List ℕ) : Type 0 where
  pub takes : Consumes left left_after archive
  pub within : length archive ≤ limit
  pub at_end : IsAtEnd left_after

-- Some bytes were read. These games and those of the next batch are the first ones of the full batches of the bytes. If
-- the archive was read to its end, they may also be the first ones of all its games. No read was made for other games.
-- These games include all full batches of the bytes, less as many bytes at their end as one read can give.
pub record Gives (limit : ℕ) (left left_after : Option (List ℕ)) (games batch : KeptGames) : Type 0 where
  pub front : List ℕ
  pub reads : Reads limit left left_after front
  pub first : AreLeadingGames (games ++ batch) (whole front)
      ⊎ (ReadsAll limit left left_after front × AreLeadingGames (games ++ batch) (cut_games front))
  pub needed : AreLeadingGames (whole (take (length front - most_read) front)) games

-- `AreRead` holds of the number of bytes that were read, and the games of all their full batches were visited
pub record TakesWhole (limit : ℕ) (left left_after : Option (List ℕ)) (AreRead : ℕ → Type 0)
    (Taken : KeptGames → Type 0) : Type 0 where
  pub front : List ℕ
  pub reads : Reads limit left left_after front
  pub count : AreRead (length front)
  pub taken : Taken (whole front)

-- all games of an archive were visited, `count` of them
pub record TakesAll (limit : ℕ) (left left_after : Option (List ℕ)) (count : ℕ) (Taken : KeptGames → Type 0) : Type 0 where
  pub archive : List ℕ
  pub reads : ReadsAll limit left left_after archive
  pub count_is : count ≡ length (cut_games archive)
  pub taken : Taken (cut_games archive)

-- the meaning of each result for the bytes that were left and the games that were visited
abbrev pub IsVisitResult : {X : Type 0} → ℕ → Option (List ℕ) → Option (List ℕ) → (KeptGames → Type 0)
    → (KeptGames → KeptGames → X → Type 0) → Result (VisitEnd X) (Refusal BatchFault) → Type 0
IsVisitResult limit left left_after Taken Stopped (Ok (All count)) = TakesAll limit left left_after count Taken
IsVisitResult limit left left_after Taken Stopped (Ok (Early stop)) =
    (games : KeptGames) × (batch : KeptGames) × Gives limit left left_after games batch × Stopped games batch stop
IsVisitResult limit left left_after Taken Stopped (Err (Fault ReadFault)) = TakesWhole limit left left_after (λ n. n ≤ limit) Taken
IsVisitResult limit left left_after Taken Stopped (Err (Fault ArchiveTooLong)) = TakesWhole limit left left_after (λ n. limit < n) Taken
IsVisitResult limit left left_after Taken Stopped (Err IsNoMemory) =
    (games : KeptGames) × Gives limit left left_after games [] × Taken games

-- the count of the source's faults: it rose if a read failed, and is the same otherwise
abbrev pub HasVisitCause : {X : Type 0} → ℕ → ℕ → Result (VisitEnd X) (Refusal BatchFault) → Type 0
HasVisitCause before now (Ok _) = now ≡ before
HasVisitCause before now (Err (Fault ReadFault)) = Rose before now
HasVisitCause before now (Err (Fault ArchiveTooLong)) = now ≡ before
HasVisitCause before now (Err IsNoMemory) = now ≡ before
