-- Workers that look for the first match of a batch.
use Rattle.std.specs.Prelude.{◌≡◌, ℕ, ◌+◌, ◌<◌, ◌≤◌, ◌==◌, ◌&&◌, Bool, List, [], ◌∷◌, ◌++◌, All, Option, None, Some, count_by, if◌then◌else◌}
use Rattle.pgn_batches.specs.Games.{games_of, number_of}
use Rattle.pgn_batches.specs.declared.batch.Batch.{Batch}
use Rattle.cq_board.specs.Draws.{times}
use Rattle.cq_first.specs.declared.seat.FirstBoard.{FirstBoard}
use Rattle.cq_first.specs.declared.seat.FirstSeat.{FirstSeat}
use Rattle.cq_first.specs.Seats as at_first
use Rattle.cql_syntax.specs.Trees.{QueryTree}
use Rattle.cq_shards.specs.Answers.{IsAnswerAmong, IsAnswerAt, answers_at}
use Rattle.cq_shards.specs.Order.{is_match}
use Rattle.cq_shards.specs.Internal.WorkerAnswers.{size}
use Rattle.cq_shards.specs.declared.answers.GameAnswer.{GameAnswer}

-- ---- the board of matches

abbrev pub board_games : FirstBoard → ℕ
board_games b = at_first.numbers_of b

abbrev pub board_seats : FirstBoard → ℕ
board_seats b = at_first.seats_of b

abbrev pub IsSeatAt : FirstBoard → FirstSeat → Type 0
IsSeatAt b s = at_first.IsSeatOf b s

abbrev pub IsUnusedSeat : FirstBoard → FirstSeat → Type 0
IsUnusedSeat b s = at_first.IsSeatOf b s × at_first.IsUnused b s

abbrev pub found : FirstSeat → List ℕ
found s = at_first.found s

abbrev pub skipped : FirstSeat → List ℕ
skipped s = at_first.skipped s

-- ---- answers

abbrev pub IsAnswerIn : QueryTree → Batch → GameAnswer → Type 0
IsAnswerIn query b a = IsAnswerAmong query (number_of b) (games_of b) a

-- the number of answers that are matches of the game with this number in the archive
abbrev pub matches_at : ℕ → List GameAnswer → ℕ
matches_at index answers = count_by (λ a. (a.index == index) && is_match a) answers

-- ---- workers

-- each game of the batch among the numbers drawn has an answer or was skipped; the numbers found are the matches among the answers
pub record HasFound (query : QueryTree) (batch : Batch) (numbers founds skips : List ℕ) (answers : List GameAnswer) : Type 0 where
  pub each : All (IsAnswerIn query batch) answers
  pub drawn_ : (x : ℕ) → x < size batch → answers_at (number_of batch + x) answers + times x skips ≡ times x numbers
  pub found_ : (x : ℕ) → x < size batch → matches_at (number_of batch + x) answers ≡ times x founds

-- each game drawn by a worker with this seat has an answer or was skipped; the board of matches is of the batch's games
pub record HasSearched (first : FirstBoard) (query : QueryTree) (batch : Batch) (seat : FirstSeat) (numbers : List ℕ)
    (answers : List GameAnswer) : Type 0 where
  pub board : board_games first ≡ size batch
  pub seat_ : IsSeatAt first seat
  pub has_found : HasFound query batch numbers (found seat) (skipped seat) answers

-- a number is added, or not
abbrev pub adding : Bool → List ℕ → ℕ → List ℕ
adding b xs k = if b then xs ++ k ∷ [] else xs

-- a match is reported to the board
pub record HasReported (first : FirstBoard) (number : ℕ) (matched : Bool) (was now : FirstSeat) : Type 0 where
  pub seat : IsSeatAt first now
  pub founds : found now ≡ adding matched (found was) number
  pub skips : skipped now ≡ skipped was

-- a game is skipped, or has an answer
abbrev pub IsAnsweredOrSkipped : QueryTree → Batch → ℕ → (was now : FirstSeat) → Option GameAnswer → Type 0
IsAnsweredOrSkipped query batch number was now None = (found now ≡ found was) × (skipped now ≡ skipped was ++ number ∷ [])
IsAnsweredOrSkipped query batch number was now (Some answer) =
    IsAnswerAt query (number_of batch) (games_of batch) number answer
    × (found now ≡ adding (is_match answer) (found was) number) × (skipped now ≡ skipped was)

-- a worker has processed a game
pub record HasProcessedGame (first : FirstBoard) (query : QueryTree) (batch : Batch) (number : ℕ) (was now : FirstSeat)
    (one : Option GameAnswer) : Type 0 where
  pub seat : IsSeatAt first now
  pub took : IsAnsweredOrSkipped query batch number was now one

-- All workers' answers: one for each game up to the first match, which has the number `word`. With no match `word` is the size of the
-- batch.
pub record AreFound (query : QueryTree) (batch : Batch) (word : ℕ) (answers : List GameAnswer) : Type 0 where
  pub high : word ≤ size batch
  pub each : All (IsAnswerIn query batch) answers
  pub once : (x : ℕ) → x < size batch → answers_at (number_of batch + x) answers ≤ 1
  pub there : (x : ℕ) → x < size batch → x ≤ word → answers_at (number_of batch + x) answers ≡ 1
  pub before : (x : ℕ) → x < size batch → x < word → matches_at (number_of batch + x) answers ≡ 0
  pub at_word : word < size batch → 0 < matches_at (number_of batch + word) answers
