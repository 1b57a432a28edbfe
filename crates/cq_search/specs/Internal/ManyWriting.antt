-- The state after the search for several queries, as the private functions give it. Each query has a row: its answers of a batch, or the
-- matches that are kept for it.
use Rattle.std.specs.Prelude.{◌≡◌, ℕ, ◌+◌, ◌<◌, ◌≤◌, List, [], ◌∷◌, ◌++◌, length, take, map, filter, get_or, AllPairs, Result, Ok, Err}
use Rattle.std.specs.List.{AllZip}
use Rattle.std.specs.List.Sorted.{IsPermutation}
use Rattle.cq_outside.specs.Faults.{Rose}
use Rattle.cq_outside.specs.Flow.{Grew}
use Rattle.cq_common.specs.declared.faults.Failed.{Failed}
use Rattle.cq_common.specs.declared.faults.Refusal.{Refusal}
use Rattle.cq_common.specs.declared.faults.Refusal.TheVariants.{Fault, NoMemory as IsNoMemory}
use Rattle.cql_syntax.specs.Trees.{QueryTree}
use Rattle.cq_shards.specs.Answers.{answers_from}
use Rattle.cq_shards.specs.Order.{AreOfDistinctGames, IsEarlier, is_match as is_match_kept}
use Rattle.cq_shards.specs.ReadResults.{ReadResult}
use Rattle.cq_shards.specs.declared.answers.GameAnswer.{GameAnswer}
use Rattle.cq_search.specs.declared.tally.Tally.{Tally}
use Rattle.cq_search.specs.GameOutput.{tally_of}
use Rattle.cq_search.specs.Exports.{matches_from}
use Rattle.cq_search.specs.ManyQueries.{faults_alone}
use Rattle.cq_query_files.specs.Views.{SinkView, Sinks, Writes, WritesPrefix, NoWriteFailed, OneSinkFailed}
use Rattle.cq_search.specs.Internal.Writing.{InOrder}

-- a row in the order of its games
abbrev pub IsSortedByGame : (row ordered : List GameAnswer) → Type 0
IsSortedByGame row ordered = IsPermutation row ordered × (AreOfDistinctGames row → AllPairs IsEarlier ordered)

-- in the order of its games a row has the answers of these games to a query, the first of them having this number
abbrev pub IsAnswerListOf : QueryTree → ℕ → List ReadResult → List GameAnswer → Type 0
IsAnswerListOf query number outcomes row =
    (ordered : List GameAnswer) → IsSortedByGame row ordered → ordered ≡ answers_from query number outcomes

-- each query has such a row
abbrev pub AreAnswerListsOf : List QueryTree → ℕ → List ReadResult → List (List GameAnswer) → Type 0
AreAnswerListsOf queries number outcomes rows = AllZip (λ query row. IsAnswerListOf query number outcomes row) queries rows

-- the matches of a row are added to those kept before
abbrev pub AddsMatches : (row before after : List GameAnswer) → Type 0
AddsMatches row before after = (ordered : List GameAnswer) × IsSortedByGame row ordered × (after ≡ before ++ filter is_match_kept ordered)

-- the same for each query but the first, for which they are as before
pub record KeepsRest (rows before after : List (List GameAnswer)) : Type 0 where
  pub count : length after ≡ length before
  pub first : get_or after 0 [] ≡ get_or before 0 []
  pub rest : (i : ℕ) → 1 ≤ i → i < length before → AddsMatches (get_or rows i []) (get_or before i []) (get_or after i [])

-- The games with these outcomes were searched: the lines of the faulty ones are written, and the tally is that of the first query. The
-- matches of each query are kept.
pub record FoundByAll (queries : List QueryTree) (outcomes : List ReadResult) (sinks : Sinks) (tally : Tally)
    (kept : List (List GameAnswer)) : Type 0 where
  pub first : (q : QueryTree) (qs : List QueryTree) → queries ≡ q ∷ qs → tally ≡ tally_of q outcomes
  pub kept_ : kept ≡ map (λ q. matches_from q 0 outcomes) queries
  pub writes : Writes sinks (faults_alone outcomes)
  pub unfailed : NoWriteFailed sinks

-- the same after a call that may fail
abbrev pub KeepsSome : List QueryTree → List ReadResult → Sinks → Tally → List (List GameAnswer)
    → Result (Unit {0}) (Refusal Failed) → Type 0
KeepsSome queries outcomes sinks tally kept (Ok _) = FoundByAll queries outcomes sinks tally kept
KeepsSome queries outcomes sinks tally kept (Err (Fault _)) = WritesPrefix sinks (faults_alone outcomes) × OneSinkFailed sinks
KeepsSome queries outcomes sinks tally kept (Err IsNoMemory) = WritesPrefix sinks (faults_alone outcomes) × NoWriteFailed sinks

-- the matches that are kept for each query are in its order
pub record AreInOrder (queries : List QueryTree) (kept ordered : List (List GameAnswer)) : Type 0 where
  pub count : length ordered ≡ length kept
  pub each : (i : ℕ) (q : QueryTree) → i < length kept → InOrder (get_or queries i q) (get_or kept i []) (get_or ordered i [])

-- a text is written, or a part of it if a write fails or the call is out of memory
abbrev pub WritesOut : List ℕ → SinkView → SinkView → Result (Unit {0}) (Refusal Failed) → Type 0
WritesOut text before after (Ok _) = Grew before.taken after.taken text × (after.faults ≡ before.faults)
WritesOut text before after (Err (Fault _)) =
    ((count : ℕ) × Grew before.taken after.taken (take count text)) × Rose before.faults after.faults
WritesOut text before after (Err IsNoMemory) =
    ((count : ℕ) × Grew before.taken after.taken (take count text)) × (after.faults ≡ before.faults)
