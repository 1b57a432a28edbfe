-- The texts of an archive up to the first game that matches.
use Rattle.std.specs.Prelude.{◌≡◌, ℕ, Bool, true, false, List, [], ◌∷◌, if◌then◌else◌}
use Rattle.cql_syntax.specs.Trees.{QueryTree}
use Rattle.cq_shards.specs.ReadResults.{ReadResult}
use Rattle.cq_search.specs.GameOutput.{export_if, fault_lines, is_match, report_of, tally_of}
use Rattle.cq_search.specs.AllGames.{texts_of}
use Rattle.cq_query_files.specs.Views.{Texts}
use Rattle.cq_search.specs.Promise.{OutputSpec}

-- one of some games matches
abbrev pub some_match : QueryTree → List ReadResult → Bool
some_match query [] = false
some_match query (r ∷ rs) = if is_match query r then true else some_match query rs

-- the games up to and with the first that matches, or all if none does
abbrev pub up_to_first : QueryTree → List ReadResult → List ReadResult
up_to_first query [] = []
up_to_first query (r ∷ rs) = r ∷ (if is_match query r then [] else up_to_first query rs)

-- the export of the first game that matches, or nothing
abbrev pub first_export : QueryTree → List ReadResult → List ℕ
first_export query [] = []
first_export query (r ∷ rs) = if is_match query r then export_if query r else first_export query rs

-- The export of the first of some games that matches, and the report up to it: the lines of the faulty games before it, and the counts up
-- to it. If no game matches, there is no export, and the report is that of all games.
pub record AreFirstMatchTexts (query : QueryTree) (outcomes : List ReadResult) (refused : ℕ) (texts : Texts) : Type 0 where
  pub export : texts.out ≡ first_export query outcomes
  pub report : texts.err ≡ report_of query (up_to_first query outcomes)
  pub count : refused ≡ (tally_of query (up_to_first query outcomes)).refused

-- the two texts
abbrev pub first_texts_of : QueryTree → List ReadResult → Texts
first_texts_of query outcomes = record { out = first_export query outcomes; err = report_of query (up_to_first query outcomes) }

-- The sort items of the query order nothing. Games suffice if one of them matches. After a fault of reading none do.
abbrev pub first_texts : QueryTree → OutputSpec
first_texts query = record {
  ended = AreFirstMatchTexts query;
  early = λ outcomes refused texts. (some_match query outcomes ≡ true) × AreFirstMatchTexts query outcomes refused texts;
  faulted = λ outcomes texts. (some_match query outcomes ≡ false) × (texts ≡ record { out = []; err = fault_lines 1 outcomes });
  reading = λ outcomes texts. (refused : ℕ) × AreFirstMatchTexts query outcomes refused texts;
}

-- the expected output of a run, up to the first match or of all games
abbrev pub expected_output : (first : Bool) → QueryTree → OutputSpec
expected_output true query = first_texts query
expected_output false query = texts_of query
