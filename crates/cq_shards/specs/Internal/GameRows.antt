-- The answers of games to several queries, game by game.
use Rattle.std.specs.Prelude.{◌≡◌, ℕ, ◌+◌, ◌<◌, ◌==◌, List, [], ◌∷◌, ◌++◌, All, count_by}
use Rattle.pgn_batches.specs.Games.{games_of, number_of}
use Rattle.pgn_batches.specs.KeptGames.{KeptGames}
use Rattle.pgn_batches.specs.declared.batch.Batch.{Batch}
use Rattle.cq_workers.specs.NumberedOutputs.{HasOutputs}
use Rattle.cql_syntax.specs.Trees.{QueryTree}
use Rattle.cq_shards.specs.Answers.{AreAnswersOf, answer_of}
use Rattle.cq_shards.specs.ReadResults.{IsReadResultAt, ReadResult}
use Rattle.cq_shards.specs.Internal.WorkerAnswers.{size}
use Rattle.cq_shards.specs.declared.answers.GameAnswer.{GameAnswer}
use Rattle.cq_shards.specs.declared.game_rows.GameRow.{GameRow}

-- the answers of a game to some queries, the first query's last
abbrev pub answers_back : List QueryTree → (index : ℕ) → ReadResult → List GameAnswer
answers_back [] index outcome = []
answers_back (q ∷ qs) index outcome = answers_back qs index outcome ++ answer_of q index outcome ∷ []

-- the row of the game with this number among some games, of which the first has the number `n` in the archive
pub record IsRowAt (queries : List QueryTree) (n : ℕ) (games : KeptGames) (number : ℕ) (r : GameRow) : Type 0 where
  pub outcome : ReadResult
  pub read : IsReadResultAt games number outcome
  pub index : r.index ≡ n + number
  pub answers : r.answers.items ≡ answers_back queries (n + number) outcome

abbrev pub IsRowFor : List QueryTree → Batch → ℕ → GameRow → Type 0
IsRowFor queries batch number r = IsRowAt queries (number_of batch) (games_of batch) number r

-- the row of one of the games of a batch
abbrev pub IsRowIn : List QueryTree → Batch → GameRow → Type 0
IsRowIn queries batch r = (number : ℕ) × IsRowFor queries batch number r

-- the number of rows that are of the game with this number in the archive
abbrev pub rows_at : ℕ → List GameRow → ℕ
rows_at index rows = count_by (λ r. r.index == index) rows

-- up to order, the row of each game of a batch, once
pub record AreRowsOf (queries : List QueryTree) (batch : Batch) (rows : List GameRow) : Type 0 where
  pub each : All (IsRowIn queries batch) rows
  pub once : (number : ℕ) → number < size batch → rows_at (number_of batch + number) rows ≡ 1

-- the answers of the first query are taken off the rows
pub record AreSplitOff (queries : List QueryTree) (batch : Batch) (rows : List GameRow) (answers : List GameAnswer) : Type 0 where
  pub first : QueryTree
  pub later : List QueryTree
  pub are : queries ≡ first ∷ later
  pub rows_ : AreRowsOf later batch rows
  pub answers_ : AreAnswersOf first batch answers

-- ---- workers

abbrev pub row_index : GameRow → ℕ
row_index r = r.index

-- a worker made these rows of these games
abbrev pub HasMadeRows : List QueryTree → Batch → (numbers : List ℕ) → List GameRow → Type 0
HasMadeRows queries batch numbers rows = HasOutputs (IsRowFor queries batch) row_index (number_of batch) (size batch) numbers rows
