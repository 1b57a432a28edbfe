-- The exports of the games that match, in the order of a query.
use Rattle.std.specs.Prelude.{◌≡◌, ℕ, ◌+◌, List, [], ◌∷◌, ◌++◌, Ok, Err, AllPairs, if◌then◌else◌}
use Rattle.std.specs.List.{flat_map}
use Rattle.std.specs.List.Sorted.{IsPermutation}
use Rattle.pgn_export.specs.Export.{export_text}
use Rattle.cql_syntax.specs.Hits.{marked, keys}
use Rattle.cql_syntax.specs.Trees.{QueryTree}
use Rattle.cq_shards.specs.Order.{ComesBefore, directions, values_in}
use Rattle.cq_shards.specs.declared.answers.Answer.TheVariants.{Match}
use Rattle.cq_shards.specs.declared.answers.GameAnswer.{GameAnswer}
use Rattle.cq_shards.specs.Answers.{has_match, text_of}
use Rattle.cq_shards.specs.ReadResults.{ReadResult}

-- a game that matches: its number from 0, its export with its marks, and its keys
abbrev pub match_if : QueryTree → ℕ → ReadResult → List GameAnswer
match_if query number (Ok game) =
    if has_match query game
    then record { index = number; what = Match (export_text (marked query game)) (values_in (keys query game)) } ∷ [] else []
match_if query number (Err fault) = []

-- the games that match, in archive order, the first of all games having this number
unfoldable pub matches_from : QueryTree → ℕ → List ReadResult → List GameAnswer
matches_from query number [] = []
matches_from query number (r ∷ rs) = match_if query number r ++ matches_from query (number + 1) rs

abbrev pub exports_of : List GameAnswer → List ℕ
exports_of answers = flat_map (λ a. text_of a.what) answers

-- These are the exports of the games that match, each once, by the query's sort items and then in archive order; without a sort item
-- in archive order. No other order of the games is one (`answers_have_one_order`).
pub record AreExports (query : QueryTree) (outcomes : List ReadResult) (text : List ℕ) : Type 0 where
  pub sorted : List GameAnswer
  pub same : IsPermutation (matches_from query 0 outcomes) sorted
  pub order : AllPairs (ComesBefore (directions query.items)) sorted
  pub is : text ≡ exports_of sorted
