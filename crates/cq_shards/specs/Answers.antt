-- The answers of the games of a batch.
use Rattle.std.specs.Prelude.{◌≡◌, ℕ, ◌+◌, ◌<◌, Bool, not, List, [], ◌∷◌, All, Some, Ok, Err, ◌==◌, count_by, length, slice_get, if◌then◌else◌}
use Rattle.pgn_batches.specs.Games.{games_of, number_of}
use Rattle.pgn_batches.specs.KeptGames.{KeptGames}
use Rattle.pgn_batches.specs.declared.batch.Batch.{Batch}
use Rattle.pgn_batches.specs.declared.kept_game.KeptGame.{KeptGame}
use Rattle.cq_position.specs.Games.{Game}
use Rattle.pgn_export.specs.Export.{export_text}
use Rattle.pgn_reader.specs.Verdict.{IsReadResult}
use Rattle.cql_syntax.specs.Hits.{hits, keys, marked}
use Rattle.cql_syntax.specs.Trees.{QueryTree}
use Rattle.cq_shards.specs.Order.{values_in}
use Rattle.cq_shards.specs.ReadResults.{AreReadResults, ReadResult}
use Rattle.cq_shards.specs.declared.answers.Answer.{Answer}
use Rattle.cq_shards.specs.declared.answers.Answer.TheVariants.{Refused, Miss, Match}
use Rattle.cq_shards.specs.declared.answers.GameAnswer.{GameAnswer}

-- true if a query matches at some node
abbrev pub has_match : QueryTree → Game → Bool
has_match query game = not (length (hits query game) == 0)

-- the result of a query in a game with this read result
abbrev pub found_in : QueryTree → ReadResult → Answer
found_in query (Ok game) =
    if has_match query game then Match (export_text (marked query game)) (values_in (keys query game)) else Miss
found_in query (Err fault) = Refused fault

-- the answer of a game with this number and this read result
abbrev pub answer_of : QueryTree → ℕ → ReadResult → GameAnswer
answer_of query number outcome = record { index = number; what = found_in query outcome }

-- the answers of some games, the first of which has this number
unfoldable pub answers_from : QueryTree → ℕ → List ReadResult → List GameAnswer
answers_from query number [] = []
answers_from query number (r ∷ rs) = answer_of query number r ∷ answers_from query (number + 1) rs

-- the export in an answer
abbrev pub text_of : Answer → List ℕ
text_of (Refused fault) = []
text_of Miss = []
text_of (Match text keys) = text

-- ---- batches

-- the answer of a game
abbrev pub IsAnswerOf : QueryTree → (index : ℕ) → KeptGame → GameAnswer → Type 0
IsAnswerOf query index game a =
    (outcome : ReadResult) × IsReadResult game.start game.first game.bytes outcome × (a ≡ answer_of query index outcome)

-- the answer of the game that has this number among some games, of which the first has the number `n` in the archive
pub record IsAnswerAt (query : QueryTree) (n : ℕ) (games : KeptGames) (number : ℕ) (a : GameAnswer) : Type 0 where
  pub game : KeptGame
  pub outcome : ReadResult
  pub at : slice_get games number ≡ Some game
  pub read : IsReadResult game.start game.first game.bytes outcome
  pub is : a ≡ answer_of query (n + number) outcome

-- the answer of one of some games
abbrev pub IsAnswerAmong : QueryTree → ℕ → KeptGames → GameAnswer → Type 0
IsAnswerAmong query n games a = (number : ℕ) × IsAnswerAt query n games number a

-- the number of answers that are of the game with this number in the archive
abbrev pub answers_at : ℕ → List GameAnswer → ℕ
answers_at index answers = count_by (λ a. a.index == index) answers

-- up to order, the answer of each game of a batch, once
pub record AreAnswersOf (query : QueryTree) (batch : Batch) (answers : List GameAnswer) : Type 0 where
  pub each : All (IsAnswerAmong query (number_of batch) (games_of batch)) answers
  pub once : (number : ℕ) → number < length (games_of batch) → answers_at (number_of batch + number) answers ≡ 1

-- the answers of some games, in the order of the games
pub record AreInGameOrder (query : QueryTree) (n : ℕ) (games : KeptGames) (answers : List GameAnswer) : Type 0 where
  pub outcomes : List ReadResult
  pub are_read : AreReadResults games outcomes
  pub are : answers ≡ answers_from query n outcomes

abbrev pub AnswersBatch : QueryTree → Batch → List GameAnswer → Type 0
AnswersBatch query batch answers = AreInGameOrder query (number_of batch) (games_of batch) answers
