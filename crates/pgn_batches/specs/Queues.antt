-- The contents of a queue of batches.
use Rattle.std.specs.Prelude.{◌≡◌, ℕ, ◌+◌, List, [], ◌∷◌, ◌++◌, length, slice_get, take, Option, None, Some}
use Rattle.pgn_batches.specs.declared.batch.Batch.{Batch}
use Rattle.pgn_batches.specs.declared.state.Queue.{Queue}
use Rattle.pgn_batches.specs.Batching.{size_of, full_batches, left_over, flat, batches}
use Rattle.pgn_batches.specs.KeptGames.{KeptGames}

-- a batch has these games, the first of them with this number
pub record HasGames (number : ℕ) (games : KeptGames) (batch : Batch) : Type 0 where
  pub games_ : batch.games.items ≡ games
  pub index : batch.index ≡ number

-- consecutive batches
abbrev pub AreBatches : ℕ → List KeptGames → List Batch → Type 0
AreBatches number [] [] = Unit {0}
AreBatches number [] (q ∷ qs) = ⊥
AreBatches number (b ∷ bs) [] = ⊥
AreBatches number (b ∷ bs) (q ∷ qs) = HasGames number b q × AreBatches (number + length b) bs qs

-- the queue was given these games, and gave the first `m` full batches of them
pub record Fills (q : Queue) (games : KeptGames) (m : ℕ) : Type 0 where
  pub given : List KeptGames
  pub waiting : List KeptGames
  pub count : length given ≡ m
  pub full : full_batches games ≡ given ++ waiting
  pub are : AreBatches (length (flat given)) waiting q.full.items
  pub open_ : q.open.items ≡ left_over games
  pub size : q.size ≡ size_of (left_over games)
  pub index : q.index ≡ length (flat (full_batches games))

-- a batch is the full one with number `m` of some games
pub record IsNextBatch (games : KeptGames) (m : ℕ) (batch : Batch) : Type 0 where
  pub is : slice_get (full_batches games) m ≡ Some batch.games.items
  pub index : batch.index ≡ length (flat (take m (full_batches games)))

-- the queue gave all batches of some games
pub record IsDone (q : Queue) (games : KeptGames) (m : ℕ) : Type 0 where
  pub all : length (batches games) ≡ m
  pub none : q.full.items ≡ []
  pub nothing : q.open.items ≡ []

-- the batch with number `m`, of all batches
pub record IsBatchAt (games : KeptGames) (m : ℕ) (batch : Batch) : Type 0 where
  pub is : slice_get (batches games) m ≡ Some batch.games.items
  pub index : batch.index ≡ length (flat (take m (batches games)))

-- the games that are left are given as the last batch, or none are left
abbrev pub GivesLast : KeptGames → ℕ → Option Batch → Queue → Type 0
GivesLast games m None q = IsDone q games m
GivesLast games m (Some batch) q = IsBatchAt games m batch × IsDone q games (m + 1)
