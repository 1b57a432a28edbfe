-- Taking a batch, for one query over all games.
use Rattle.std.proofs.Common.{◌≡◌, ◌+◌, ◌^◌, ◌≤◌, ◌<◌, List, [], ◌++◌, length, ap, sym, ◌∙◌, arith, subst}
use Rattle.std.proofs.lemmas.List.Sums.{count_by-le-length}
use Rattle.pgn_batches.specs.Games.{games_of, number_of}
use Rattle.pgn_batches.specs.KeptGames.{KeptGames}
use Rattle.pgn_batches.specs.declared.batch.Batch.{Batch}
use Rattle.cq_shards.specs.Answers.{AnswersBatch, answers_from}
use Rattle.cq_shards.specs.declared.answers.GameAnswer.{GameAnswer}
use Rattle.cq_query_files.specs.declared.status.Status.{Status}
use Rattle.cq_query_files.specs.declared.status.Status.TheVariants.{NoMemory}
use Rattle.cq_search.specs.GameOutput.{is_match, is_refused}
use Rattle.cq_search.specs.AllGames.{texts_so_far}
use Rattle.cq_search.specs.Internal.ByBatches.{HaveOutcomes}
use Rattle.cq_query_files.specs.Views.{SinkView, Sinks, sinks_of}
use Rattle.cq_search.specs.Internal.Visits.{HaveReadResults, StopsIn, HasVisited, Task}
use Rattle.cq_search.specs.Internal.Writing.{FoundSoFar, SearchState, search_state}
use Rattle.cq_search.proofs.GameByGame.{answers_count, as_prefix, none_found, prefix_grows, tally_with}
use Rattle.cq_search.proofs.Given.{Rest, count_read, rest_of}
use Rattle.cq_search.proofs.Known.{reading_on}

-- the state of the search after the games that were taken
abbrev pub FoundIn : Task → Sinks → SearchState → KeptGames → Type 0
FoundIn task sinks stand games = HaveReadResults games (λ outcomes. FoundSoFar task.sorted task.query outcomes sinks stand)

-- at some games it was stopped
abbrev pub StoppedIn : Task → Sinks → Status → KeptGames → Type 0
StoppedIn task sinks status games = HaveReadResults games (λ outcomes. StopsIn (texts_so_far task.sorted task.query outcomes) sinks status)

-- by the task after the call, which is the task before it
pub found_now : (was now : Task) (sinks : Sinks) (stand : SearchState) (games : KeptGames)
    → HasVisited was now games (λ outcomes. FoundSoFar was.sorted was.query outcomes sinks stand) → FoundIn now sinks stand games
found_now was now sinks stand games taken = subst (λ t. FoundIn t sinks stand games) (sym taken.same) taken.reading

pub one_few : (task : Task) (sinks : Sinks) (stand : SearchState) (games : KeptGames) (batch : Batch) (answers : List GameAnswer)
    → FoundIn task sinks stand games → number_of batch ≡ length games → AnswersBatch task.query batch answers → stand.tally.games + length answers < 2 ^ 62
one_few task sinks stand games batch answers at index answered =
    let tally : stand.tally.games ≡ length at.outcomes = ap (λ (t : SearchState). t.tally.games) at.holds.is in
    let before = count_read games at.outcomes at.are_read in
    let count : length answers ≡ length answered.outcomes = ap length answered.are ∙ answers_count task.query (number_of batch) answered.outcomes in
    let read = count_read (games_of batch) answered.outcomes answered.are_read in
    let most = batch.numbers in
    omega (arith, tally, before, count, read, most, index)

-- a tally counts no more than the games
pub one_within : (task : Task) (sinks : Sinks) (stand : SearchState) (games : KeptGames) → FoundIn task sinks stand games
    → (stand.tally.matched ≤ stand.tally.games) × (stand.tally.refused ≤ stand.tally.games)
one_within task sinks stand games at = (
  subst (λ (s : SearchState). s.tally.matched ≤ s.tally.games) (sym at.holds.is) (count_by-le-length (is_match task.query) at.outcomes),
  subst (λ (s : SearchState). s.tally.refused ≤ s.tally.games) (sym at.holds.is) (count_by-le-length is_refused at.outcomes),
)

pub one_answers : (task : Task) (sinks : Sinks) (stand : SearchState) (games : KeptGames) (batch : Batch) (answers : List GameAnswer)
    → (at : FoundIn task sinks stand games) → number_of batch ≡ length games → (answered : AnswersBatch task.query batch answers)
    → answers ≡ answers_from task.query (length at.outcomes) answered.outcomes
one_answers task sinks stand games batch answers at index answered =
    answered.are ∙ ap (λ n. answers_from task.query n answered.outcomes) (index ∙ count_read games at.outcomes at.are_read)

-- out of memory for its answers
pub one_wants : HaveOutcomes → (task : Task) (sinks : Sinks) (stand : SearchState) (games : KeptGames) (batch : Batch) → FoundIn task sinks stand games
    → StoppedIn task sinks NoMemory (games ++ games_of batch)
one_wants have task sinks stand games batch at =
    let rest : Rest (games_of batch) = rest_of have (games_of batch) in
    reading_on games batch (λ outcomes. FoundSoFar task.sorted task.query outcomes sinks stand)
    (λ outcomes. StopsIn (texts_so_far task.sorted task.query outcomes) sinks NoMemory) at rest.outcomes rest.are_read
    (prefix_grows task.sorted task.query at.outcomes rest.outcomes sinks (as_prefix sinks (texts_so_far task.sorted task.query at.outcomes) at.holds.writes), at.holds.unfailed)

-- before the first batch
pub one_begins : (task : Task) (out err : SinkView) → FoundIn task (sinks_of out out err err) (search_state (tally_with 0 0 0) []) []
one_begins task out err = record { outcomes = []; are_read = tt; holds = none_found task.sorted task.query out err }
