-- Taking a batch, up to the first match.
use Rattle.std.proofs.Common.{◌≡◌, ◌+◌, ◌^◌, ◌≤◌, ◌<◌, false, ◌++◌, length, ap, sym, ◌∙◌, arith, subst, inl, inr, List}
use Rattle.std.specs.Prelude.{count_by}
use Rattle.std.proofs.lemmas.List.Sums.{count_by-le-length}
use Rattle.pgn_batches.specs.Games.{games_of, number_of}
use Rattle.pgn_batches.specs.KeptGames.{KeptGames}
use Rattle.pgn_batches.specs.declared.batch.Batch.{Batch}
use Rattle.cql_syntax.specs.Trees.{QueryTree}
use Rattle.cq_shards.specs.Answers.{answers_from}
use Rattle.cq_shards.specs.FirstMatch.{AnswersUpToFirst}
use Rattle.cq_shards.specs.ReadResults.{AreReadResults, ReadResult}
use Rattle.cq_shards.specs.declared.answers.GameAnswer.{GameAnswer}
use Rattle.cq_query_files.specs.declared.status.Status.{Status}
use Rattle.cq_query_files.specs.declared.status.Status.TheVariants.{NoMemory}
use Rattle.cq_search.specs.GameOutput.{is_match, is_refused}
use Rattle.cq_search.specs.AllGames.{texts_so_far}
use Rattle.cq_search.specs.Internal.ByBatches.{Laws}
use Rattle.cq_search.specs.FirstGame.{some_match, up_to_first}
use Rattle.cq_query_files.specs.Views.{SinkView, Sinks, WritesPrefix}
use Rattle.cq_search.specs.Internal.Visits.{FirstStopped, FoundNone, HaveReadResults, StopsIn, HasVisited}
use Rattle.cq_search.specs.Internal.Writing.{FoundSoFar, SearchState, WritesSummary}
use Rattle.cq_search.proofs.FirstGames.{UpTo, all_up, none_counted, some_counted, some_of_first, up_few, up_on, up_to}
use Rattle.cq_search.proofs.FirstTexts.{first_written}
use Rattle.cq_search.proofs.GameByGame.{answers_count, as_prefix, prefix_grows}
use Rattle.cq_search.proofs.Given.{Rest, count_read, kept_read_on, rest_of}
use Rattle.cq_query_files.proofs.Sinks.{with_err}

-- the answers of the batch up to its first match
abbrev pub BatchUpTo : QueryTree → Batch → List GameAnswer → Type 0
BatchUpTo query batch answers = UpTo query (number_of batch) (games_of batch) answers

pub batch_up_to : Laws → (query : QueryTree) (batch : Batch) (answers : List GameAnswer) → AnswersUpToFirst query batch answers → BatchUpTo query batch answers
batch_up_to laws query batch answers are = up_to laws.have query (number_of batch) (games_of batch) answers are

-- the games taken before, none of which matches
abbrev pub NoneIn : QueryTree → Sinks → SearchState → KeptGames → Type 0
NoneIn query sinks stand games = HaveReadResults games (FoundNone query sinks stand)

-- by the query after the call, which is the query before it
pub none_now : (was now : QueryTree) (sinks : Sinks) (stand : SearchState) (games : KeptGames) → HasVisited was now games (FoundNone was sinks stand) → NoneIn now sinks stand games
none_now was now sinks stand games taken = subst (λ q. NoneIn q sinks stand games) (sym taken.same) taken.reading

-- a tally counts no more than the games
pub first_within : (query : QueryTree) (sinks : Sinks) (stand : SearchState) (games : KeptGames) → NoneIn query sinks stand games
    → (stand.tally.matched ≤ stand.tally.games) × (stand.tally.refused ≤ stand.tally.games)
first_within query sinks stand games at = (
  subst (λ (s : SearchState). s.tally.matched ≤ s.tally.games) (sym at.holds.found.is) (count_by-le-length (is_match query) at.outcomes),
  subst (λ (s : SearchState). s.tally.refused ≤ s.tally.games) (sym at.holds.found.is) (count_by-le-length is_refused at.outcomes),
)

-- a batch was searched up to its first match, and none of the games before it matches
pub record NextBatch : Type 0 where
  pub query : QueryTree
  pub sinks : Sinks
  pub stand : SearchState
  pub games : KeptGames
  pub batch : Batch
  pub answers : List GameAnswer
  pub at : NoneIn query sinks stand games
  pub index : number_of batch ≡ length games
  pub answered : BatchUpTo query batch answers

-- the results of reading the games before the batch, and its own up to the first match
abbrev pub read_in : NextBatch → List ReadResult
read_in next = next.at.outcomes ++ up_to_first next.query next.answered.outcomes

pub first_few : (next : NextBatch) → next.stand.tally.games + length next.answers < 2 ^ 62
first_few next =
    let query = next.query in
    let at = next.at in
    let outcomes = next.answered.outcomes in
    let tally : next.stand.tally.games ≡ length at.outcomes = ap (λ (t : SearchState). t.tally.games) at.holds.found.is in
    let before = count_read next.games at.outcomes at.are_read in
    let count : length next.answers ≡ length (up_to_first query outcomes) = ap length next.answered.are ∙ answers_count query (number_of next.batch) (up_to_first query outcomes) in
    let fewer = up_few query outcomes in
    let read = count_read (games_of next.batch) outcomes next.answered.are_read in
    let most = next.batch.numbers in
    let index = next.index in
    omega (arith, tally, before, count, fewer, read, most, index)

pub first_answers : (next : NextBatch) → next.answers ≡ answers_from next.query (length next.at.outcomes) (up_to_first next.query next.answered.outcomes)
first_answers next =
    next.answered.are ∙ ap (λ n. answers_from next.query n (up_to_first next.query next.answered.outcomes)) (next.index ∙ count_read next.games next.at.outcomes next.at.are_read)

before_in : (query : QueryTree) (sinks : Sinks) (stand : SearchState) (games : KeptGames) → NoneIn query sinks stand games → HaveReadResults games (λ rs. some_match query rs ≡ false)
before_in query sinks stand games at = record { outcomes = at.outcomes; are_read = at.are_read; holds = at.holds.none }

none_prefix : (query : QueryTree) (rs more : List ReadResult) (sinks : Sinks) (stand : SearchState) → FoundNone query sinks stand rs
    → WritesPrefix sinks (texts_so_far false query (up_to_first query (rs ++ more)))
none_prefix query rs more sinks stand so =
    let up : rs ++ up_to_first query more ≡ up_to_first query (rs ++ more) = sym (up_on query rs more so.none) in
    subst (λ l. WritesPrefix sinks (texts_so_far false query l)) up
    (prefix_grows false query rs (up_to_first query more) sinks (as_prefix sinks (texts_so_far false query rs) so.found.writes))

-- out of memory for its answers
pub first_wants : Laws → (query : QueryTree) (sinks : Sinks) (stand : SearchState) (games : KeptGames) (batch : Batch) → NoneIn query sinks stand games
    → FirstStopped query sinks NoMemory games (games_of batch)
first_wants laws query sinks stand games batch at =
    let rest : Rest (games_of batch) = rest_of laws.have (games_of batch) in record {
      before = before_in query sinks stand games at;
      after = record {
        outcomes = at.outcomes ++ rest.outcomes;
        are_read = kept_read_on games (games_of batch) at.outcomes rest.outcomes at.are_read rest.are_read;
        holds = inl (none_prefix query at.outcomes rest.outcomes sinks stand at.holds, at.holds.found.unfailed);
      };
    }

-- the results of reading the games before the batch, and all of its own
abbrev all_in : NextBatch → List ReadResult
all_in next = next.at.outcomes ++ next.answered.outcomes

all_read : (next : NextBatch) → AreReadResults (next.games ++ games_of next.batch) (all_in next)
all_read next = kept_read_on next.games (games_of next.batch) next.at.outcomes next.answered.outcomes next.at.are_read next.answered.are_read

same_read : (next : NextBatch) → read_in next ≡ up_to_first next.query (all_in next)
same_read next = sym (up_on next.query next.at.outcomes next.answered.outcomes next.at.holds.none)

-- a write failed, or the call was out of memory
pub first_halts : (status : Status) (next : NextBatch) (new : Sinks) → StopsIn (texts_so_far false next.query (read_in next)) new status
    → FirstStopped next.query new status next.games (games_of next.batch)
first_halts status next new stops = record {
  before = before_in next.query next.sinks next.stand next.games next.at;
  after = record { outcomes = all_in next; are_read = all_read next; holds = inl (subst (λ l. StopsIn (texts_so_far false next.query l) new status) (same_read next) stops) };
}

-- the batch has a match, and the last line is written
pub first_matches : (status : Status) (next : NextBatch) (new : Sinks) (after : SearchState) (err : SinkView) → FoundSoFar false next.query (read_in next) new after
    → 0 < after.tally.matched → WritesSummary after.tally new.err_after err status → FirstStopped next.query (with_err new err) status next.games (games_of next.batch)
first_matches status next new after err found some writes =
    let query = next.query in
    let all = all_in next in
    let first = subst (λ l. FoundSoFar false query l new after) (same_read next) found in
    let count : after.tally.matched ≡ count_by (is_match query) (up_to_first query all) = ap (λ (s : SearchState). s.tally.matched) first.is in record {
      before = before_in query next.sinks next.stand next.games next.at;
      after = record {
        outcomes = all;
        are_read = all_read next;
        holds = inr (record {
          some = sym (some_of_first query all) ∙ some_counted query (up_to_first query all) (omega (arith, some, count));
          writes = first_written status query all new err after.tally after.kept first writes;
        });
      };
    }

-- or none
pub first_on : (next : NextBatch) (new : Sinks) (after : SearchState) → FoundSoFar false next.query (read_in next) new after → after.tally.matched ≤ 0
    → NoneIn next.query new after (next.games ++ games_of next.batch)
first_on next new after found none_matched =
    let query = next.query in
    let all = all_in next in
    let first = subst (λ l. FoundSoFar false query l new after) (same_read next) found in
    let count : after.tally.matched ≡ count_by (is_match query) (up_to_first query all) = ap (λ (s : SearchState). s.tally.matched) first.is in
    let none : some_match query all ≡ false =
    sym (some_of_first query all) ∙ none_counted query (up_to_first query all) (omega (arith, count, none_matched)) in record {
      outcomes = all;
      are_read = all_read next;
      holds = record { none = none; found = subst (λ l. FoundSoFar false query l new after) (all_up query all none) first };
    }
