-- The answers of several queries to the games of a batch.
use Rattle.std.specs.Prelude.{List, map}
use Rattle.std.specs.List.{AllZip}
use Rattle.pgn_batches.specs.declared.batch.Batch.{Batch}
use Rattle.cql_syntax.specs.Trees.{QueryTree}
use Rattle.cq_shards.specs.Answers.{AreAnswersOf}
use Rattle.cq_shards.specs.declared.answers.GameAnswer.{GameAnswer}
use Rattle.cq_shards.specs.declared.search_many.ManyAnswers.{ManyAnswers}

-- the answers of each query, in the order of the queries
abbrev pub answers_in : ManyAnswers → List (List GameAnswer)
answers_in many = map (λ l. l.answers.items) many.lists.items

-- for each query, up to order, the answer of each game of a batch, once
abbrev pub AreManyOf : List QueryTree → Batch → List (List GameAnswer) → Type 0
AreManyOf queries batch rows = AllZip (λ query row. AreAnswersOf query batch row) queries rows
