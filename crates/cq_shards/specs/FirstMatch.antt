-- The answers of the games of a batch up to and with the first match.
use Rattle.std.specs.Prelude.{◌≡◌, ◌⊎◌, ℕ, ◌+◌, true, false, List, [], ◌∷◌}
use Rattle.pgn_batches.specs.Games.{games_of, number_of}
use Rattle.pgn_batches.specs.KeptGames.{KeptGames}
use Rattle.pgn_batches.specs.declared.batch.Batch.{Batch}
use Rattle.cql_syntax.specs.Trees.{QueryTree}
use Rattle.cq_shards.specs.Answers.{IsAnswerOf}
use Rattle.cq_shards.specs.Order.{is_match}
use Rattle.cq_shards.specs.declared.answers.GameAnswer.{GameAnswer}

-- In order, the answer of each game up to and with the first match, or of all games if none matches. The first game has the number `n` in
-- the archive.
abbrev pub AreUpToFirst : QueryTree → (n : ℕ) → KeptGames → List GameAnswer → Type 0
AreUpToFirst query n [] [] = Unit {0}
AreUpToFirst query n [] (a ∷ answers) = ⊥
AreUpToFirst query n (g ∷ games) [] = ⊥
AreUpToFirst query n (g ∷ games) (a ∷ answers) =
    IsAnswerOf query n g a
    × (((is_match a ≡ true) × (answers ≡ [])) ⊎ ((is_match a ≡ false) × AreUpToFirst query (n + 1) games answers))

abbrev pub AnswersUpToFirst : QueryTree → Batch → List GameAnswer → Type 0
AnswersUpToFirst query batch answers = AreUpToFirst query (number_of batch) (games_of batch) answers
