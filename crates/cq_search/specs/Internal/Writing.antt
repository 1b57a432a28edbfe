-- The state after the search of an archive, and of each game of it, as the private functions give it.
use Rattle.std.specs.Prelude.{◌≡◌, ℕ, ◌+◌, ◌<◌, Bool, List, [], ◌++◌, length, take, filter, All, AllPairs, Result, Ok, Err, if◌then◌else◌}
use Rattle.std.specs.List.Sorted.{IsPermutation}
use Rattle.cq_outside.specs.Faults.{Rose}
use Rattle.cq_outside.specs.Flow.{Grew}
use Rattle.cq_common.specs.declared.faults.Failed.{Failed}
use Rattle.cq_common.specs.declared.faults.Refusal.{Refusal}
use Rattle.cq_common.specs.declared.faults.Refusal.TheVariants.{Fault, NoMemory as IsNoMemory}
use Rattle.cq_query_files.specs.declared.status.Status.{Status}
use Rattle.cq_query_files.specs.declared.status.Status.TheVariants.{Done, DoneWithRefusals, WriteFault, NoMemory}
use Rattle.cq_search.specs.declared.tally.Tally.{Tally}
use Rattle.cq_search.specs.declared.totals.Totals.{Totals}
use Rattle.cql_syntax.specs.Trees.{QueryTree}
use Rattle.cq_report.specs.Games.{fault_line}
use Rattle.pgn_reader.specs.declared.fault.GameFault.{GameFault}
use Rattle.cq_shards.specs.Order.{AreOfDistinctGames, ComesBefore, HasKeys, directions, is_match as is_match_kept}
use Rattle.cq_shards.specs.declared.answers.GameAnswer.{GameAnswer}
use Rattle.cq_shards.specs.ReadResults.{ReadResult}
use Rattle.cq_search.specs.GameOutput.{export_if, fault_if, is_match, is_refused, summary_of, tally_of}
use Rattle.cq_search.specs.Exports.{exports_of, match_if, matches_from}
use Rattle.cq_search.specs.AllGames.{texts_so_far, written}
use Rattle.cq_query_files.specs.Views.{SinkView, Sinks, Texts, Writes, WritesPrefix, IsUnwritten, OneSinkFailed, NoWriteFailed}
use Rattle.cq_search.specs.Promise.{OutputSpec, WritesAll, WritesPart, Unfinished}

-- writing a text to a sink: all of it was taken, or its count rose and a prefix was
abbrev pub WritesText : List ℕ → SinkView → SinkView → Result (Unit {0}) (Refusal Failed) → Type 0
WritesText text before after (Ok _) = Grew before.taken after.taken text × (after.faults ≡ before.faults)
WritesText text before after (Err (Fault _)) =
    ((count : ℕ) × Grew before.taken after.taken (take count text)) × Rose before.faults after.faults
WritesText text before after (Err IsNoMemory) = ⊥

-- writing the line of a faulty game; out of memory nothing of it is written
abbrev pub WritesFault : ℕ → GameFault → SinkView → SinkView → Result (Unit {0}) (Refusal Failed) → Type 0
WritesFault number fault before after (Ok _) =
    Grew before.taken after.taken (fault_line number fault) × (after.faults ≡ before.faults)
WritesFault number fault before after (Err (Fault _)) =
    ((count : ℕ) × Grew before.taken after.taken (take count (fault_line number fault))) × Rose before.faults after.faults
WritesFault number fault before after (Err IsNoMemory) = after ≡ before

-- writing the last text of a report: the status tells of a faulty game, or the cause why not all of it is written
abbrev pub WritesLast : List ℕ → (refused : ℕ) → SinkView → SinkView → Status → Type 0
WritesLast text refused before after Done = (refused ≡ 0) × Grew before.taken after.taken text × (after.faults ≡ before.faults)
WritesLast text refused before after DoneWithRefusals =
    (0 < refused) × Grew before.taken after.taken text × (after.faults ≡ before.faults)
WritesLast text refused before after WriteFault =
    ((count : ℕ) × Grew before.taken after.taken (take count text)) × Rose before.faults after.faults
WritesLast text refused before after NoMemory = after ≡ before
WritesLast text refused before after _ = ⊥

-- the last line, for one query
abbrev pub WritesSummary : Tally → SinkView → SinkView → Status → Type 0
WritesSummary tally = WritesLast (summary_of tally) tally.refused

-- one game more is counted
abbrev pub tallied : QueryTree → Tally → ReadResult → Tally
tallied query tally outcome = record {
  games = tally.games + 1;
  matched = tally.matched + (if is_match query outcome then 1 else 0);
  refused = tally.refused + (if is_refused outcome then 1 else 0);
}

-- The game that is kept until the games can be put in order: with a sort item a game that matches.
abbrev pub kept_if : (sorted : Bool) → QueryTree → ℕ → ReadResult → List GameAnswer
kept_if sorted query number outcome = if sorted then match_if query number outcome else []

-- the games that are kept, of these with this number and the next ones
abbrev pub kept_from : (sorted : Bool) → QueryTree → ℕ → List ReadResult → List GameAnswer
kept_from sorted query number outcomes = if sorted then matches_from query number outcomes else []

-- the texts of the game that follows so many
abbrev pub texts_of_game : (sorted : Bool) → QueryTree → ℕ → ReadResult → Texts
texts_of_game sorted query games outcome = record { out = written sorted query outcome; err = fault_if (games + 1) outcome }

-- the state of a search: its counts, and the games that are kept
pub record SearchState : Type 0 where
  pub tally : Tally
  pub kept : List GameAnswer

abbrev pub search_state : Tally → List GameAnswer → SearchState
search_state tally answers = record { tally = tally; kept = answers }

-- one game more: it is counted, and kept if it is to be
abbrev pub after_one_game : (sorted : Bool) → QueryTree → SearchState → ReadResult → SearchState
after_one_game sorted query stand outcome = record {
  tally = tallied query stand.tally outcome;
  kept = stand.kept ++ kept_if sorted query stand.tally.games outcome;
}

-- one game was searched: it is counted and written or kept, or a write fails, or out of memory nothing of it is written
abbrev pub AnswersGame : (sorted : Bool) → QueryTree → ReadResult → SearchState → SearchState → Sinks
    → Result (Unit {0}) (Refusal Failed) → Type 0
AnswersGame sorted query outcome before after sinks (Ok _) =
    (after ≡ after_one_game sorted query before outcome)
    × Writes sinks (texts_of_game sorted query before.tally.games outcome) × NoWriteFailed sinks
AnswersGame sorted query outcome before after sinks (Err (Fault _)) =
    WritesPrefix sinks (texts_of_game sorted query before.tally.games outcome) × OneSinkFailed sinks
AnswersGame sorted query outcome before after sinks (Err IsNoMemory) = IsUnwritten sinks

-- the games with these outcomes were searched: they are counted and kept, and all that is due of them is written
pub record FoundSoFar (sorted : Bool) (query : QueryTree) (outcomes : List ReadResult) (sinks : Sinks) (stand : SearchState) : Type 0 where
  pub is : stand ≡ search_state (tally_of query outcomes) (kept_from sorted query 0 outcomes)
  pub writes : Writes sinks (texts_so_far sorted query outcomes)
  pub unfailed : NoWriteFailed sinks

-- the same after a call that may fail
abbrev pub AnswersSome : (sorted : Bool) → QueryTree → List ReadResult → Sinks → SearchState
    → Result (Unit {0}) (Refusal Failed) → Type 0
AnswersSome sorted query outcomes sinks stand (Ok _) = FoundSoFar sorted query outcomes sinks stand
AnswersSome sorted query outcomes sinks stand (Err (Fault _)) =
    WritesPrefix sinks (texts_so_far sorted query outcomes) × OneSinkFailed sinks
AnswersSome sorted query outcomes sinks stand (Err IsNoMemory) =
    WritesPrefix sinks (texts_so_far sorted query outcomes) × NoWriteFailed sinks

-- the matches that were kept, in the order of a query, and their exports, as far as they are taken
pub record InOrder (query : QueryTree) (answers ordered : List GameAnswer) : Type 0 where
  pub same : IsPermutation (filter is_match_kept answers) ordered
  pub order : AreOfDistinctGames answers → All (HasKeys (directions query.items)) answers
      → AllPairs (ComesBefore (directions query.items)) ordered

abbrev pub WritesKept : QueryTree → List GameAnswer → SinkView → SinkView → Result (Unit {0}) (Refusal Failed) → Type 0
WritesKept query answers before after (Ok _) =
    (ordered : List GameAnswer) × InOrder query answers ordered
    × Grew before.taken after.taken (exports_of ordered) × (after.faults ≡ before.faults)
WritesKept query answers before after (Err (Fault _)) =
    (ordered : List GameAnswer) × InOrder query answers ordered
    × ((count : ℕ) × Grew before.taken after.taken (take count (exports_of ordered))) × Rose before.faults after.faults
WritesKept query answers before after (Err IsNoMemory) = after ≡ before

-- the promise of each status on the sinks, if all games have these outcomes
abbrev pub WritesAnswer : OutputSpec → List ReadResult → Sinks → Status → Type 0
WritesAnswer expected_output outcomes sinks Done =
    WritesAll (expected_output.ended outcomes) (λ refused. refused ≡ 0) sinks × NoWriteFailed sinks
WritesAnswer expected_output outcomes sinks DoneWithRefusals =
    WritesAll (expected_output.ended outcomes) (λ refused. 0 < refused) sinks × NoWriteFailed sinks
WritesAnswer expected_output outcomes sinks WriteFault = WritesPart (Unfinished expected_output outcomes) sinks × OneSinkFailed sinks
WritesAnswer expected_output outcomes sinks NoMemory = WritesPart (Unfinished expected_output outcomes) sinks × NoWriteFailed sinks
WritesAnswer expected_output outcomes sinks _ = ⊥

-- one game more of a made archive is counted
abbrev pub counted : QueryTree → Totals → ReadResult → Totals
counted query before outcome = record {
  bytes = before.bytes;
  tally = tallied query before.tally outcome;
  written = before.written + length (export_if query outcome);
}
