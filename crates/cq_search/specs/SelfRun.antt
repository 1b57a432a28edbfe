-- The text of a query over a made archive: one line with the counts.
use Rattle.std.specs.Prelude.{◌≡◌, ℕ, ◌<◌, List, [], length}
use Rattle.std.specs.List.{flat_map}
use Rattle.cq_report.specs.Games.{made_line}
use Rattle.cql_syntax.specs.Trees.{QueryTree}
use Rattle.cq_query_files.specs.declared.status.Status.{Status}
use Rattle.cq_query_files.specs.declared.status.Status.TheVariants.{Done, DoneWithRefusals, WriteFault, NoMemory}
use Rattle.cq_search.specs.declared.totals.Totals.{Totals}
use Rattle.cq_search.specs.GameOutput.{export_if, tally_of}
use Rattle.cq_search.specs.Exports.{AreExports}
use Rattle.cq_shards.specs.ReadResults.{ReadResult}
use Rattle.cq_search.specs.ArchiveGames.{HasGames}
use Rattle.cq_query_files.specs.Views.{Sinks, Texts, Writes, WritesPrefix, IsUnwritten, NoWriteFailed, OutFailed}

-- The totals of the games of an archive: their counts, and the length of their exports together. The exports are as long in any order, so
-- this is the length of the exports that `run` and `eval` write.
pub record AreTotals (query : QueryTree) (archive : List ℕ) (totals : Totals) : Type 0 where
  pub outcomes : List ReadResult
  pub holds : HasGames archive outcomes
  pub bytes : totals.bytes ≡ length archive
  pub tally : totals.tally ≡ tally_of query outcomes
  pub written : totals.written ≡ length (flat_map (export_if query) outcomes)
  pub as_run : (exports : List ℕ) → AreExports query outcomes exports → totals.written ≡ length exports

-- the totals of an archive of so many bytes, of whose games these are read
abbrev pub totals_of : QueryTree → ℕ → List ReadResult → Totals
totals_of query bytes outcomes = record {
  bytes = bytes;
  tally = tally_of query outcomes;
  written = length (flat_map (export_if query) outcomes);
}

-- the line of totals
abbrev pub line_of : Totals → List ℕ
line_of totals = made_line totals.bytes totals.tally.games totals.tally.matched totals.tally.refused totals.written

abbrev pub texts_of_totals : Totals → Texts
texts_of_totals totals = record { out = line_of totals; err = [] }

-- the line is written to out, and the status tells of a faulty game, or the cause why not all of it is written
abbrev pub WritesTotals : Totals → Status → Sinks → Type 0
WritesTotals totals Done sinks = (totals.tally.refused ≡ 0) × Writes sinks (texts_of_totals totals) × NoWriteFailed sinks
WritesTotals totals DoneWithRefusals sinks = (0 < totals.tally.refused) × Writes sinks (texts_of_totals totals) × NoWriteFailed sinks
WritesTotals totals WriteFault sinks = WritesPrefix sinks (texts_of_totals totals) × OutFailed sinks
WritesTotals totals NoMemory sinks = IsUnwritten sinks
WritesTotals totals _ sinks = ⊥

-- the text of a query over a made archive; out of memory there is none
pub data WritesGenerated (archive : List ℕ) (query : QueryTree) (status : Status) (sinks : Sinks) : Type 0 where
  totals_written : (totals : Totals) → AreTotals query archive totals → WritesTotals totals status sinks
      → WritesGenerated archive query status sinks
  generated_out_of_memory : status ≡ NoMemory → IsUnwritten sinks → WritesGenerated archive query status sinks
