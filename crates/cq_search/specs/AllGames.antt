-- The texts of one query, over all games.
use Rattle.std.specs.Prelude.{◌≡◌, ℕ, List, [], Bool, if◌then◌else◌}
use Rattle.std.specs.List.{flat_map}
use Rattle.cql_syntax.specs.Trees.{QueryTree}
use Rattle.cq_shards.specs.ReadResults.{ReadResult}
use Rattle.cq_search.specs.GameOutput.{export_if, fault_lines, report_of, tally_of}
use Rattle.cq_search.specs.Exports.{AreExports}
use Rattle.cq_search.specs.Sorts.{have_sort}
use Rattle.cq_query_files.specs.Views.{Texts}
use Rattle.cq_search.specs.Promise.{OutputSpec}

-- the exports and the report of some games
pub record AreAnswers (query : QueryTree) (outcomes : List ReadResult) (refused : ℕ) (texts : Texts) : Type 0 where
  pub exports : AreExports query outcomes texts.out
  pub report : texts.err ≡ report_of query outcomes
  pub count : refused ≡ (tally_of query outcomes).refused

-- the texts of some games before the next ones are read: with a sort item no exports
abbrev pub written : (sorted : Bool) → QueryTree → ReadResult → List ℕ
written sorted query outcome = if sorted then [] else export_if query outcome

abbrev pub texts_so_far : (sorted : Bool) → QueryTree → List ReadResult → Texts
texts_so_far sorted query outcomes = record { out = flat_map (written sorted query) outcomes; err = fault_lines 1 outcomes }

abbrev pub texts_of : QueryTree → OutputSpec
texts_of query = record {
  ended = AreAnswers query;
  early = λ outcomes refused texts. ⊥;
  faulted = λ outcomes texts. texts ≡ texts_so_far (have_sort query.items) query outcomes;
  reading = λ outcomes texts. texts ≡ texts_so_far (have_sort query.items) query outcomes;
}
