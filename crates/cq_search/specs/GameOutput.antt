-- The matches of a query in games, and their texts.
use Rattle.std.specs.Prelude.{ℕ, ◌+◌, Bool, true, false, List, [], ◌∷◌, ◌++◌, length, count_by, Ok, Err, if◌then◌else◌}
use Rattle.pgn_export.specs.Export.{export_text}
use Rattle.cq_shards.specs.Answers.{has_match}
use Rattle.cq_report.specs.Games.{fault_line, summary_line}
use Rattle.cq_search.specs.declared.tally.Tally.{Tally}
use Rattle.cql_syntax.specs.Hits.{marked}
use Rattle.cql_syntax.specs.Trees.{QueryTree}
use Rattle.cq_shards.specs.ReadResults.{ReadResult}

-- a game that matches is exported with its marks, any other is not
abbrev pub export_if : QueryTree → ReadResult → List ℕ
export_if query (Ok game) = if has_match query game then export_text (marked query game) else []
export_if query (Err fault) = []

abbrev pub fault_if : ℕ → ReadResult → List ℕ
fault_if number (Ok game) = []
fault_if number (Err fault) = fault_line number fault

abbrev pub is_match : QueryTree → ReadResult → Bool
is_match query (Ok game) = has_match query game
is_match query (Err fault) = false

abbrev pub is_refused : ReadResult → Bool
is_refused (Ok game) = false
is_refused (Err fault) = true

-- the lines of the faulty games, the first game having this number
unfoldable pub fault_lines : ℕ → List ReadResult → List ℕ
fault_lines number [] = []
fault_lines number (r ∷ rs) = fault_if number r ++ fault_lines (number + 1) rs

-- the last line of a report
abbrev pub summary_of : Tally → List ℕ
summary_of tally = summary_line tally.games tally.matched tally.refused

-- the numbers of some games, of those that match, and of the faulty ones
abbrev pub tally_of : QueryTree → List ReadResult → Tally
tally_of query outcomes = record {
  games = length outcomes;
  matched = count_by (is_match query) outcomes;
  refused = count_by is_refused outcomes;
}

-- the report: the lines of the faulty games, and then the counts
abbrev pub report_of : QueryTree → List ReadResult → List ℕ
report_of query outcomes = fault_lines 1 outcomes ++ summary_of (tally_of query outcomes)
