-- The answers of a batch, in the order of its games.
use Rattle.std.proofs.Common.{List, Ok, Err}
use Rattle.std.specs.Prelude.{Result, IfOk, AllPairs}
use Rattle.std.specs.List.Sorted.{IsPermutation}
use Rattle.pgn_batches.specs.declared.batch.Batch.{Batch}
use Rattle.cql_syntax.specs.Trees.{QueryTree}
use Rattle.cq_shards.specs.declared.answers.GameAnswer.{GameAnswer}
use Rattle.cq_shards.specs.Answers.{AnswersBatch, AreAnswersOf}
use Rattle.cq_shards.specs.Order.{AreOfDistinctGames, IsEarlier}

-- sorted answers are beside their games
abbrev pub StandBeside : Type 0
StandBeside = (query : QueryTree) (batch : Batch) (answers sorted : List GameAnswer) → AreAnswersOf query batch answers → IsPermutation answers sorted
    → (AreOfDistinctGames answers → AllPairs IsEarlier sorted) → AnswersBatch query batch sorted

pub sorted_beside : {A E : Type 0} → StandBeside → (query : QueryTree) (batch : Batch) (answers : List GameAnswer) (items : A → List GameAnswer) (result : Result A E)
    → AreAnswersOf query batch answers → IfOk result (λ a. IsPermutation answers (items a)) → (AreOfDistinctGames answers → IfOk result (λ a. AllPairs IsEarlier (items a)))
    → IfOk result (λ a. AnswersBatch query batch (items a))
sorted_beside beside query batch answers items (Ok a) are same order = beside query batch answers (items a) are same order
sorted_beside beside query batch answers items (Err e) are same order = tt
