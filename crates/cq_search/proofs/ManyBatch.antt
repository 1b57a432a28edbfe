-- Taking a batch, for several queries.
use Rattle.std.proofs.Common.{◌≡◌, ℕ, ◌+◌, ◌^◌, ◌<◌, ◌≤◌, true, List, [], ◌∷◌, ◌++◌, length, map, get_or, set, replicate, refl, ap, sym, ◌∙◌, arith, subst, Ok, Err}
use Rattle.std.specs.Prelude.{Result}
use Rattle.std.proofs.lemmas.List.{length-map}
use Rattle.std.proofs.lemmas.List.Sums.{count_by-le-length}
use Rattle.std.proofs.lemmas.Simd.{splat_is_map}
use Rattle.pgn_batches.specs.Games.{games_of, number_of}
use Rattle.pgn_batches.specs.KeptGames.{KeptGames}
use Rattle.pgn_batches.specs.declared.batch.Batch.{Batch}
use Rattle.cq_outside.specs.Flow.{Grew}
use Rattle.cq_common.specs.declared.faults.Failed.{Failed}
use Rattle.cq_common.specs.declared.faults.Refusal.{Refusal}
use Rattle.cq_common.specs.declared.faults.Refusal.TheVariants.{Fault, NoMemory as IsNoMemory}
use Rattle.cql_syntax.specs.TreeOf.{query_tree}
use Rattle.cql_syntax.specs.Trees.{QueryTree}
use Rattle.cql_syntax.specs.declared.typed_query.TypedQuery.{TypedQuery}
use Rattle.cql_syntax.specs.QueryTrees.{trees_of}
use Rattle.cq_shards.specs.Answers.{answers_from}
use Rattle.cq_shards.specs.Many.{AreManyOf}
use Rattle.cq_shards.specs.ReadResults.{AreReadResults, ReadResult}
use Rattle.cq_shards.specs.declared.answers.GameAnswer.{GameAnswer}
use Rattle.cq_query_files.specs.declared.status.Status.{Status}
use Rattle.cq_query_files.specs.declared.status.Status.TheVariants.{NoMemory}
use Rattle.cq_search.specs.declared.tally.Tally.{Tally}
use Rattle.cq_search.specs.AllGames.{texts_so_far}
use Rattle.cq_search.specs.GameOutput.{fault_lines, is_match, is_refused, tally_of}
use Rattle.cq_search.specs.Internal.ByBatches.{HaveOutcomes, Laws}
use Rattle.cq_search.specs.Exports.{matches_from}
use Rattle.cq_search.specs.ManyQueries.{faults_alone, texts_of_all}
use Rattle.cq_search.specs.Internal.ManyWriting.{AreAnswerListsOf, FoundByAll, IsSortedByGame, KeepsRest}
use Rattle.cq_query_files.specs.Views.{SinkView, Sinks, Texts, Writes, WritesPrefix, NoWriteFailed, OneSinkFailed, sinks_of}
use Rattle.cq_search.specs.Internal.Visits.{HaveReadResults, StopsIn, HasVisited}
use Rattle.cq_search.specs.Internal.Writing.{AnswersSome, FoundSoFar, SearchState, search_state}
use Rattle.cq_search.proofs.AnswerPromise.{FullOutput}
use Rattle.cq_search.proofs.Exports.{written_none}
use Rattle.cq_search.proofs.GameByGame.{answers_count, as_prefix, both_prefix, fault_lines_on, no_fault_lines, same_stand, tally_with, took_more}
use Rattle.cq_search.proofs.Given.{Rest, count_read, rest_of}
use Rattle.cq_search.proofs.Known.{reading_on}
use Rattle.cq_search.proofs.Rows.{Keeping, all_kept, kept_of, row_at, rows_are}
use Rattle.cq_query_files.proofs.Sinks.{Took, took_count, unwritten}
use Rattle.cq_search.proofs.Sorted.{StandBeside}

-- ---- the expected output

pub faults_grow : (rs qs : List ReadResult) (sinks : Sinks) → WritesPrefix sinks (faults_alone rs) → WritesPrefix sinks (faults_alone (rs ++ qs))
faults_grow rs qs sinks writes =
    both_prefix sinks (faults_alone (rs ++ qs)) (record {
      out = took_count sinks.out.taken sinks.out_after.taken [] writes.out_count writes.out;
      err = subst (Took sinks.err.taken sinks.err_after.taken) (sym (fault_lines_on 1 rs qs))
          (took_more sinks.err.taken sinks.err_after.taken (fault_lines 1 rs) (fault_lines (1 + length rs) qs)
          (took_count sinks.err.taken sinks.err_after.taken (fault_lines 1 rs) writes.err_count writes.err));
    })

abbrev pub full_output_of_all : List QueryTree → FullOutput
full_output_of_all queries = record {
  expected_output = texts_of_all queries;
  so_far = faults_alone;
  reading = λ rs. refl;
  faulted = λ rs. refl;
  never = λ rs refused texts enough. enough;
  grows = faults_grow;
}

-- ---- the first query's answers are written

abbrev texts_with : List ℕ → List ℕ → Texts
texts_with out err = record { out = out; err = err }

one_text : (out out' err : List ℕ) → out ≡ out' → texts_with out err ≡ texts_with out' err
one_text out out' err e = ap (λ t. texts_with t err) e

faults_same : (query : QueryTree) (rs : List ReadResult) → texts_so_far true query rs ≡ faults_alone rs
faults_same query rs = one_text _ _ (fault_lines 1 rs) (written_none query rs)

found_first : (query : QueryTree) (queries : List QueryTree) (rs : List ReadResult) (sinks : Sinks) (tally : Tally) (kept : List (List GameAnswer))
    → FoundByAll (query ∷ queries) rs sinks tally kept → FoundSoFar true query rs sinks (search_state tally (get_or kept 0 []))
found_first query queries rs sinks tally kept found = record {
  is = same_stand _ _ _ _ (found.first query queries refl) (ap (λ l. get_or l 0 []) found.kept_);
  writes = subst (Writes sinks) (sym (faults_same query rs)) found.writes;
  unfailed = found.unfailed;
}

-- The answers of a batch to the first query, in order, around the call that writes and keeps them: the sinks, the tally and the kept games.
pub record FirstCall : Type 0 where
  pub before : List ReadResult
  pub outcomes : List ReadResult
  pub rows : List (List GameAnswer)
  pub ordered : List GameAnswer
  pub old : Sinks
  pub new : Sinks
  pub was : Tally
  pub now : Tally
  pub kept : List (List GameAnswer)
  pub first : List GameAnswer

pub record FirstDone (f : FirstCall) (queries : List QueryTree) (result : Result (Unit {0}) (Refusal Failed)) : Type 0 where
  pub some : 1 ≤ length f.kept
  pub are : AreAnswerListsOf queries (length f.before) f.outcomes f.rows
  pub sorts : IsSortedByGame (get_or f.rows 0 []) f.ordered
  pub found : FoundByAll queries f.before f.old f.was f.kept
  pub does : (query : QueryTree) → f.ordered ≡ answers_from query (length f.before) f.outcomes → FoundSoFar true query f.before f.old (search_state f.was (get_or f.kept 0 []))
      → AnswersSome true query (f.before ++ f.outcomes) f.new (search_state f.now f.first) result

none_kept_for : (f : FirstCall) (result : Result (Unit {0}) (Refusal Failed)) → FirstDone f [] result → ⊥
none_kept_for f result done = let some = done.some in let none : length f.kept ≡ 0 = ap length done.found.kept_ in omega (arith, some, none)

first_does : (f : FirstCall) (query : QueryTree) (queries : List QueryTree) (result : Result (Unit {0}) (Refusal Failed)) → FirstDone f (query ∷ queries) result
    → AnswersSome true query (f.before ++ f.outcomes) f.new (search_state f.now f.first) result
first_does f query queries result done =
    done.does query (row_at (query ∷ queries) (length f.before) f.outcomes f.rows 0 query done.are (omega arith) f.ordered done.sorts)
    (found_first query queries f.before f.old f.was f.kept done.found)

pub first_failed : (f : FirstCall) (queries : List QueryTree) (failed : Failed) → FirstDone f queries (Err (Fault failed))
    → WritesPrefix f.new (faults_alone (f.before ++ f.outcomes)) × OneSinkFailed f.new
first_failed f [] failed done = absurd (none_kept_for f _ done)
first_failed f (q ∷ qs) failed done =
    let did = first_does f q qs (Err (Fault failed)) done in
    (subst (WritesPrefix f.new) (faults_same q (f.before ++ f.outcomes)) did.0, did.1)

pub first_starved : (f : FirstCall) (queries : List QueryTree) → FirstDone f queries (Err IsNoMemory)
    → WritesPrefix f.new (faults_alone (f.before ++ f.outcomes)) × NoWriteFailed f.new
first_starved f [] done = absurd (none_kept_for f _ done)
first_starved f (q ∷ qs) done =
    let did = first_does f q qs (Err IsNoMemory) done in
    (subst (WritesPrefix f.new) (faults_same q (f.before ++ f.outcomes)) did.0, did.1)

-- out of memory for those of the other queries
pub rest_starved : (f : FirstCall) (queries : List QueryTree) → FirstDone f queries (Ok tt)
    → WritesPrefix f.new (faults_alone (f.before ++ f.outcomes)) × NoWriteFailed f.new
rest_starved f [] done = absurd (none_kept_for f _ done)
rest_starved f (q ∷ qs) done =
    let did : FoundSoFar true q (f.before ++ f.outcomes) f.new (search_state f.now f.first) = first_does f q qs (Ok tt) done in
    (as_prefix f.new (faults_alone (f.before ++ f.outcomes)) (subst (Writes f.new) (faults_same q (f.before ++ f.outcomes)) did.writes), did.unfailed)

first_of_all : (q p : QueryTree) (qs ps : List QueryTree) → q ∷ qs ≡ p ∷ ps → q ≡ p
first_of_all q p qs ps e = cc

pub rest_kept : (f : FirstCall) (queries : List QueryTree) (new : List (List GameAnswer)) → FirstDone f queries (Ok tt) → KeepsRest f.rows (set f.kept 0 f.first) new
    → FoundByAll queries (f.before ++ f.outcomes) f.new f.now new
rest_kept f [] new done keeps = absurd (none_kept_for f _ done)
rest_kept f (q ∷ qs) new done keeps =
    let did : FoundSoFar true q (f.before ++ f.outcomes) f.new (search_state f.now f.first) = first_does f q qs (Ok tt) done in
    let k : Keeping = record { before = f.before; outcomes = f.outcomes; rows = f.rows; old = f.kept; first = f.first; new = new } in
    record {
      first = λ p ps e. subst (λ r. f.now ≡ tally_of r (f.before ++ f.outcomes)) (first_of_all q p qs ps e) (ap (λ (s : SearchState). s.tally) did.is);
      kept_ = all_kept q qs k (record { are = done.are; old = done.found.kept_; first = ap (λ (s : SearchState). s.kept) did.is; keeps = keeps });
      writes = subst (Writes f.new) (faults_same q (f.before ++ f.outcomes)) did.writes;
      unfailed = did.unfailed;
    }

-- out of memory before any is written
pub none_kept_yet : (queries : List QueryTree) (before outcomes : List ReadResult) (sinks : Sinks) (tally : Tally) (kept : List (List GameAnswer))
    → FoundByAll queries before sinks tally kept → WritesPrefix sinks (faults_alone (before ++ outcomes)) × NoWriteFailed sinks
none_kept_yet queries before outcomes sinks tally kept found =
    (faults_grow before outcomes sinks (as_prefix sinks (faults_alone before) found.writes), found.unfailed)

-- ---- a batch

-- there are as many as there are queries
pub few_trees : (queries : List TypedQuery) (trees : List QueryTree) → trees ≡ trees_of queries → 1 ≤ length queries → length queries ≤ 16
    → (1 ≤ length trees) × (length trees ≤ 16)
few_trees queries trees is some few =
    let long : length trees ≡ length queries = ap length is ∙ length-map queries (λ (q : TypedQuery). query_tree q.query) in
    (omega (arith, long, some), omega (arith, long, few))

-- the tally counts no more than the games
pub tally_few : (queries : List QueryTree) (rs : List ReadResult) (sinks : Sinks) (tally : Tally) (kept : List (List GameAnswer)) → 1 ≤ length queries
    → FoundByAll queries rs sinks tally kept → (tally.games ≡ length rs) × (tally.matched ≤ tally.games) × (tally.refused ≤ tally.games)
tally_few [] rs sinks tally kept some found = absurd (omega (arith, some))
tally_few (q ∷ qs) rs sinks tally kept some found =
    let is = found.first q qs refl in (
      ap (λ (t : Tally). t.games) is,
      subst (λ (t : Tally). t.matched ≤ t.games) (sym is) (count_by-le-length (is_match q) rs),
      subst (λ (t : Tally). t.refused ≤ t.games) (sym is) (count_by-le-length is_refused rs),
    )

-- the batch was searched, and its games have these results of reading
pub record Answered (queries : List QueryTree) (batch : Batch) (rows : List (List GameAnswer)) : Type 0 where
  pub outcomes : List ReadResult
  pub are_read : AreReadResults (games_of batch) outcomes
  pub are : AreAnswerListsOf queries (number_of batch) outcomes rows

pub answered : Laws → StandBeside → (queries : List QueryTree) (batch : Batch) (rows : List (List GameAnswer)) → AreManyOf queries batch rows → Answered queries batch rows
answered laws beside queries batch rows are =
    let rest : Rest (games_of batch) = rest_of laws.have (games_of batch) in
    record { outcomes = rest.outcomes; are_read = rest.are_read; are = rows_are laws beside queries batch rest.outcomes rows rest.are_read are }

-- the state of the search after the games that were taken
abbrev pub FoundInAll : List QueryTree → Sinks → Tally → List (List GameAnswer) → KeptGames → Type 0
FoundInAll queries sinks tally kept games = HaveReadResults games (λ outcomes. FoundByAll queries outcomes sinks tally kept)

-- at some games it was stopped
abbrev pub StoppedInAll : Sinks → Status → KeptGames → Type 0
StoppedInAll sinks status games = HaveReadResults games (λ outcomes. StopsIn (faults_alone outcomes) sinks status)

-- by the queries after the call, which are the queries before it
pub found_now_by_all : (was now : List QueryTree) (sinks : Sinks) (tally : Tally) (kept : List (List GameAnswer)) (games : KeptGames)
    → HasVisited was now games (λ outcomes. FoundByAll was outcomes sinks tally kept) → FoundInAll now sinks tally kept games
found_now_by_all was now sinks tally kept games taken = subst (λ qs. FoundInAll qs sinks tally kept games) (sym taken.same) taken.reading

-- a batch is searched, and the state after the games before it is known
pub record NextBatch : Type 0 where
  pub queries : List QueryTree
  pub sinks : Sinks
  pub tally : Tally
  pub kept : List (List GameAnswer)
  pub games : KeptGames
  pub batch : Batch
  pub rows : List (List GameAnswer)
  pub at : FoundInAll queries sinks tally kept games
  pub index : number_of batch ≡ length games
  pub answered : Answered queries batch rows

-- with the number of the batch's first game as the count of those before
pub follows : (next : NextBatch) → AreAnswerListsOf next.queries (length next.at.outcomes) next.answered.outcomes next.rows
follows next = subst (λ n. AreAnswerListsOf next.queries n next.answered.outcomes next.rows) (next.index ∙ count_read next.games next.at.outcomes next.at.are_read) next.answered.are

first_long : (queries : List QueryTree) (n : ℕ) (outcomes : List ReadResult) (rows : List (List GameAnswer)) (ordered : List GameAnswer) → 1 ≤ length queries
    → AreAnswerListsOf queries n outcomes rows → IsSortedByGame (get_or rows 0 []) ordered → length ordered ≡ length outcomes
first_long [] n outcomes rows ordered some are sorts = absurd (omega (arith, some))
first_long (q ∷ qs) n outcomes rows ordered some are sorts =
    ap length (row_at (q ∷ qs) n outcomes rows 0 q are (omega arith) ordered sorts) ∙ answers_count q n outcomes

pub many_few : (next : NextBatch) → 1 ≤ length next.queries → (ordered : List GameAnswer) → IsSortedByGame (get_or next.rows 0 []) ordered
    → next.tally.games + length ordered < 2 ^ 62
many_few next some ordered sorts =
    let at = next.at in
    let a = next.answered in
    let counted = (tally_few next.queries at.outcomes next.sinks next.tally next.kept some at.holds).0 in
    let before = count_read next.games at.outcomes at.are_read in
    let long = first_long next.queries (number_of next.batch) a.outcomes next.rows ordered some a.are sorts in
    let read = count_read (games_of next.batch) a.outcomes a.are_read in
    let most = next.batch.numbers in
    let index = next.index in
    omega (arith, counted, before, long, read, most, index)

-- out of memory for its answers
pub many_wants : HaveOutcomes → (queries : List QueryTree) (sinks : Sinks) (tally : Tally) (kept : List (List GameAnswer)) (games : KeptGames) (batch : Batch)
    → FoundInAll queries sinks tally kept games → StoppedInAll sinks NoMemory (games ++ games_of batch)
many_wants have queries sinks tally kept games batch at =
    let rest : Rest (games_of batch) = rest_of have (games_of batch) in
    reading_on games batch (λ outcomes. FoundByAll queries outcomes sinks tally kept) (λ outcomes. StopsIn (faults_alone outcomes) sinks NoMemory)
    at rest.outcomes rest.are_read (none_kept_yet queries at.outcomes rest.outcomes sinks tally kept at.holds)

none_matched : (queries : List QueryTree) → map (λ q. []) queries ≡ map (kept_of []) queries
unfolding matches_from
none_matched [] = refl
none_matched (q ∷ qs) = ap (λ l. [] ∷ l) (none_matched qs)

-- before the first batch
pub many_begins : (queries : List QueryTree) (out err : SinkView) (kept : List (List GameAnswer)) (n : ℕ) → n ≡ length queries → kept ≡ replicate n []
    → FoundInAll queries (sinks_of out out err err) (tally_with 0 0 0) kept []
many_begins queries out err kept n count none = record {
  outcomes = [];
  are_read = tt;
  holds = record {
    first = λ q qs e. refl;
    kept_ = none ∙ splat_is_map queries n [] (sym count) ∙ none_matched queries;
    writes = record { out = unwritten out.taken; err = subst (Grew err.taken err.taken) (sym (no_fault_lines 1)) (unwritten err.taken) };
    unfailed = record { out = refl; err = refl };
  };
}
