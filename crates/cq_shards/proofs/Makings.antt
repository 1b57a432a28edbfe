-- Answers and rows have their games' numbers. So the outputs of workers for a batch are the answer, or the row, of each game, once.
use Rattle.std.proofs.Common.{List, ap}
use Rattle.pgn_batches.specs.Games.{number_of}
use Rattle.pgn_batches.specs.declared.batch.Batch.{Batch}
use Rattle.cq_workers.specs.Outputs.{AreOutputsOf}
use Rattle.cq_workers.specs.NumberedOutputs.{IsNumbered}
use Rattle.cq_workers.proofs.Makings.{are_made}
use Rattle.cql_syntax.specs.Trees.{QueryTree}
use Rattle.cq_shards.specs.declared.answers.GameAnswer.{GameAnswer}
use Rattle.cq_shards.specs.Answers.{AreAnswersOf}
use Rattle.cq_shards.specs.Internal.WorkerAnswers.{HasAnswered, IsAnswerFor, index_of, size}
use Rattle.cq_shards.specs.declared.game_rows.GameRow.{GameRow}
use Rattle.cq_shards.specs.Internal.GameRows.{AreRowsOf, HasMadeRows, IsRowFor, row_index}

pub numbered_answers : (query : QueryTree) (batch : Batch) → IsNumbered (IsAnswerFor query batch) index_of (number_of batch)
numbered_answers query batch = λ number a is. ap (λ (b : GameAnswer). b.index) is.is

pub numbered_rows : (queries : List QueryTree) (batch : Batch) → IsNumbered (IsRowFor queries batch) row_index (number_of batch)
numbered_rows queries batch = λ number r is. is.index

pub are_answers : {K : Type 0} (query : QueryTree) (batch : Batch) (kept : List K) (answers : List GameAnswer)
    → AreOutputsOf (λ k numbers made. HasAnswered query batch numbers made) (size batch) kept answers → AreAnswersOf query batch answers
are_answers query batch kept answers are =
    let all = are_made (IsAnswerFor query batch) index_of (number_of batch) (size batch) kept answers are in record { each = all.each; once = all.once }

pub are_rows : {K : Type 0} (queries : List QueryTree) (batch : Batch) (kept : List K) (rows : List GameRow)
    → AreOutputsOf (λ k numbers made. HasMadeRows queries batch numbers made) (size batch) kept rows → AreRowsOf queries batch rows
are_rows queries batch kept rows are =
    let all = are_made (IsRowFor queries batch) row_index (number_of batch) (size batch) kept rows are in record { each = all.each; once = all.once }
