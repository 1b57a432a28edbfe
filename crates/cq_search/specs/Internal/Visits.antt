-- The state after the batches of an archive are taken, from one moment to another, as the private functions give it.
use Rattle.std.specs.Prelude.{◌≡◌, ◌⊎◌, ℕ, ◌<◌, Bool, true, false, List, ◌++◌}
use Rattle.pgn_batches.specs.KeptGames.{KeptGames}
use Rattle.cql_syntax.specs.Trees.{QueryTree}
use Rattle.cq_shards.specs.ReadResults.{ReadResult, AreReadResults}
use Rattle.cq_query_files.specs.declared.status.Status.{Status}
use Rattle.cq_query_files.specs.declared.status.Status.TheVariants.{Done, DoneWithRefusals, WriteFault, NoMemory}
use Rattle.cq_search.specs.GameOutput.{tally_of}
use Rattle.cq_search.specs.AllGames.{texts_so_far}
use Rattle.cq_search.specs.FirstGame.{first_texts_of, some_match, up_to_first}
use Rattle.cq_query_files.specs.Views.{Sinks, Texts, Writes, WritesPrefix, NoWriteFailed, OneSinkFailed}
use Rattle.cq_search.specs.Internal.Writing.{FoundSoFar, SearchState}

-- these games have results of reading, and the predicate holds of them
pub record HaveReadResults (games : KeptGames) (Holds : List ReadResult → Type 0) : Type 0 where
  pub outcomes : List ReadResult
  pub are_read : AreReadResults games outcomes
  pub holds : Holds outcomes

-- the visitor's task is unchanged, and `Found` holds of the results of reading the games taken
pub record HasVisited {T : Type 0} (was now : T) (games : KeptGames) (Found : List ReadResult → Type 0) : Type 0 where
  pub same : now ≡ was
  pub reading : HaveReadResults games Found

-- each sink has taken a prefix of its text, since a write failed or the call was out of memory
abbrev pub StopsIn : Texts → Sinks → Status → Type 0
StopsIn texts sinks WriteFault = WritesPrefix sinks texts × OneSinkFailed sinks
StopsIn texts sinks NoMemory = WritesPrefix sinks texts × NoWriteFailed sinks
StopsIn texts sinks _ = ⊥

-- ---- one query, over all games

-- the task for the games: a query, and true if its matches are kept
pub record Task : Type 0 where
  pub query : QueryTree
  pub sorted : Bool

abbrev pub task_of : QueryTree → Bool → Task
task_of query sorted = record { query = query; sorted = sorted }

-- ---- up to the first match

abbrev pub refused_of : QueryTree → List ReadResult → ℕ
refused_of query outcomes = (tally_of query (up_to_first query outcomes)).refused

-- the promise of each status on the sinks, once the last line of the report was due
abbrev pub FirstWritten : (refused : ℕ) → Texts → Sinks → Status → Type 0
FirstWritten refused texts sinks Done = (refused ≡ 0) × Writes sinks texts × NoWriteFailed sinks
FirstWritten refused texts sinks DoneWithRefusals = (0 < refused) × Writes sinks texts × NoWriteFailed sinks
FirstWritten refused texts sinks WriteFault = WritesPrefix sinks texts × OneSinkFailed sinks
FirstWritten refused texts sinks NoMemory = WritesPrefix sinks texts × NoWriteFailed sinks
FirstWritten refused texts sinks _ = ⊥

-- none of the games matches, and they were searched
pub record FoundNone (query : QueryTree) (sinks : Sinks) (stand : SearchState) (outcomes : List ReadResult) : Type 0 where
  pub none : some_match query outcomes ≡ false
  pub found : FoundSoFar false query outcomes sinks stand

-- one of the games matches, and all is written, or as much as the status says
pub record FoundOne (query : QueryTree) (sinks : Sinks) (status : Status) (outcomes : List ReadResult) : Type 0 where
  pub some : some_match query outcomes ≡ true
  pub writes : FirstWritten (refused_of query outcomes) (first_texts_of query outcomes) sinks status

-- none of the games matches, and the visit was stopped at the next batch
pub record FirstStopped (query : QueryTree) (sinks : Sinks) (status : Status) (games batch : KeptGames) : Type 0 where
  pub before : HaveReadResults games (λ outcomes. some_match query outcomes ≡ false)
  pub after : HaveReadResults (games ++ batch) (λ outcomes. StopsIn (texts_so_far false query (up_to_first query outcomes)) sinks status
      ⊎ FoundOne query sinks status outcomes)
