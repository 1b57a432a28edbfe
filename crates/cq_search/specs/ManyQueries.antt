-- The texts of several queries, over one reading of an archive.
use Rattle.std.specs.Prelude.{◌≡◌, ℕ, ◌+◌, List, [], ◌∷◌, ◌++◌, length, count_by}
use Rattle.std.specs.List.{AllZip, flat_map}
use Rattle.cql_syntax.specs.Trees.{QueryTree}
use Rattle.cq_report.specs.Games.{head_line}
use Rattle.cq_shards.specs.ReadResults.{ReadResult}
use Rattle.cq_search.specs.GameOutput.{fault_lines, is_refused, summary_of, tally_of}
use Rattle.cq_search.specs.Exports.{AreExports}
use Rattle.cq_query_files.specs.Views.{Texts}
use Rattle.cq_search.specs.Promise.{OutputSpec}

-- each query has these exports
abbrev pub HaveExports : List QueryTree → List ReadResult → List (List ℕ) → Type 0
HaveExports queries outcomes exports = AllZip (λ query text. AreExports query outcomes text) queries exports

-- the output of a query: the line with its number and the length of its exports, and then these
abbrev pub output_of : ℕ → List ℕ → List ℕ
output_of number exports = head_line number (length exports) ++ exports

-- the outputs of some queries, the first having this number
unfoldable pub outputs_from : ℕ → List (List ℕ) → List ℕ
outputs_from number [] = []
outputs_from number (t ∷ ts) = output_of number t ++ outputs_from (number + 1) ts

-- the last lines of the report, one for each query
abbrev pub summaries : List QueryTree → List ReadResult → List ℕ
summaries queries outcomes = flat_map (λ q. summary_of (tally_of q outcomes)) queries

-- the outputs of all queries, and the report: the lines of the faulty games, and then the counts for each query
pub record AreAllAnswers (queries : List QueryTree) (outcomes : List ReadResult) (refused : ℕ) (texts : Texts) : Type 0 where
  pub exports : List (List ℕ)
  pub are : HaveExports queries outcomes exports
  pub outputs : texts.out ≡ outputs_from 1 exports
  pub report : texts.err ≡ fault_lines 1 outcomes ++ summaries queries outcomes
  pub count : refused ≡ count_by is_refused outcomes

-- the texts of some games before all are read: the lines of the faulty ones alone
abbrev pub faults_alone : List ReadResult → Texts
faults_alone outcomes = record { out = []; err = fault_lines 1 outcomes }

abbrev pub texts_of_all : List QueryTree → OutputSpec
texts_of_all queries = record {
  ended = AreAllAnswers queries;
  early = λ outcomes refused texts. ⊥;
  faulted = λ outcomes texts. texts ≡ faults_alone outcomes;
  reading = λ outcomes texts. texts ≡ faults_alone outcomes;
}
