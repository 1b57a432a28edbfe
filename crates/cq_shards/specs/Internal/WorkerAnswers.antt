-- The answers of one worker for games of a batch, in the form that the private functions use.
use Rattle.std.specs.Prelude.{ℕ, List, length}
use Rattle.pgn_batches.specs.Games.{games_of, number_of}
use Rattle.pgn_batches.specs.declared.batch.Batch.{Batch}
use Rattle.cq_workers.specs.NumberedOutputs.{HasOutputs}
use Rattle.cql_syntax.specs.Trees.{QueryTree}
use Rattle.cq_shards.specs.Answers.{IsAnswerAt}
use Rattle.cq_shards.specs.declared.answers.GameAnswer.{GameAnswer}

-- the number of games of a batch
abbrev pub size : Batch → ℕ
size batch = length (games_of batch)

abbrev pub IsAnswerFor : QueryTree → Batch → ℕ → GameAnswer → Type 0
IsAnswerFor query batch number a = IsAnswerAt query (number_of batch) (games_of batch) number a

abbrev pub index_of : GameAnswer → ℕ
index_of a = a.index

-- a worker made these answers of these games
abbrev pub HasAnswered : QueryTree → Batch → (numbers : List ℕ) → List GameAnswer → Type 0
HasAnswered query batch numbers answers = HasOutputs (IsAnswerFor query batch) index_of (number_of batch) (size batch) numbers answers
