-- The end of a call up to the first match, from the visit of the batches of the archive.
use Rattle.std.proofs.Common.{◌≡◌, ◌⊎◌, ℕ, ◌-◌, ◌≤◌, ◌<◌, Bool, true, false, List, [], ◌∷◌, ◌++◌, length, take, Option, Some, None, Err, refl, ap, sym, ◌∙◌, arith, subst, inl, inr}
use Rattle.std.specs.List.{flat_map}
use Rattle.std.specs.Io.KnownBytes.{Consumes}
use Rattle.std.proofs.lemmas.List.{take-append-le}
use Rattle.pgn_batches.specs.Filling.{most_read}
use Rattle.pgn_batches.specs.KeptGames.{KeptGames, kept}
use Rattle.pgn_batches.specs.Visits.{AreLeadingGames, Gives, HasVisitCause, Reads, ReadsAll, IsVisitResult, TakesWhole}
use Rattle.pgn_batches.specs.Whole.{cut_games, whole, whole_spans}
use Rattle.cq_outside.specs.Faults.{Rose}
use Rattle.cq_outside.specs.Flow.{Grew}
use Rattle.cql_syntax.specs.Trees.{QueryTree}
use Rattle.pgn_cut.specs.Cut.{cut}
use Rattle.cq_shards.specs.ReadResults.{ReadResult, AreReadResults}
use Rattle.cq_query_files.specs.declared.status.Status.{Status}
use Rattle.cq_query_files.specs.declared.status.Status.TheVariants.{Done, DoneWithRefusals, QueryRefused, WordsRefused, OpenFault, ReadFault, WriteFault, NoMemory, ArchiveTooLong}
use Rattle.cq_search.specs.GameOutput.{export_if, fault_lines}
use Rattle.cq_search.specs.Internal.ByBatches.{Laws}
use Rattle.cq_search.specs.FirstGame.{AreFirstMatchTexts as AreFirstGames, first_texts, first_texts_of, some_match, up_to_first, expected_output}
use Rattle.cq_search.specs.ArchiveGames.{AreRead}
use Rattle.cq_search.specs.Promise.{SearchCall, ReadsPrefix, Suffices, AnswersAll, AnswerPromise}
use Rattle.cq_query_files.specs.Views.{Sinks, SinkView, SourceView, sinks_of, Texts, Writes, WritesPrefix}
use Rattle.cq_search.specs.Promise.{StatusPromise, EndsEarly, IsOneOf, Unfinished, WritesAll, WritesPart}
use Rattle.cq_search.specs.Internal.Visits.{FirstStopped, FirstWritten, FoundNone, FoundOne, HaveReadResults, StopsIn, refused_of}
use Rattle.cq_search.specs.Internal.Writing.{FoundSoFar, SearchState, WritesSummary, search_state}
use Rattle.cq_search.proofs.FirstGames.{all_up, are_first, first_is, some_grows, texts_same, no_first}
use Rattle.cq_search.proofs.FirstTexts.{not_enough, Before, first_prefix, first_written, no_more, written_more}
use Rattle.cq_search.proofs.Known.{AllRead, Known, ReadOn, all_read, cut_begins, first_spans, known_of, read_on, takes_some, whole_begins, with_none}
use Rattle.cq_search.proofs.Endings.{Broken, WritesEver, breaks_off, ends, finds_all, starves, stopped, too_long, unread}
use Rattle.cq_query_files.proofs.Sinks.{some_failed, with_err}
use Rattle.std.proofs.lemmas.List.{length-map}
use Rattle.pgn_batches.proofs.Filling.{consumes_none}
use Rattle.pgn_batches.proofs.Streams.{count_within}
use Rattle.pgn_batches.specs.declared.state.BatchFault.{BatchFault}
use Rattle.pgn_batches.specs.declared.state.BatchFault.TheVariants.{ReadFault as TheReadFault, ArchiveTooLong as TheArchiveTooLong}
use Rattle.cq_common.specs.declared.faults.Refusal.{Refusal}
use Rattle.cq_common.specs.declared.faults.Refusal.TheVariants.{Fault, NoMemory as IsNoMemory}
use Rattle.cq_search.specs.AllGames.{texts_so_far}
use Rattle.cq_search.specs.Sorts.{have_sort}
use Rattle.cq_search.specs.Internal.BatchRefusal.{status_after}
use Rattle.cq_search.proofs.AnswerPromise.{answer_call, full_output_of, none_answered as all_unanswered}
use Rattle.cq_search.proofs.GameByGame.{as_prefix, none_found, tally_with}

-- ---- all was read

all_taken : (query : QueryTree) (rs : List ReadResult) (sinks : Sinks) (AreRefused : ℕ → Type 0) → AreRefused (refused_of query rs) → Writes sinks (first_texts_of query rs)
    → WritesAll (AreFirstGames query rs) AreRefused sinks
all_taken query rs sinks AreRefused refused writes = record {
  refused = refused_of query rs;
  is = refused;
  writes = record { texts = first_texts_of query rs; are = are_first query rs; writes = writes };
}

part_taken : (query : QueryTree) (rs : List ReadResult) (sinks : Sinks) → WritesPrefix sinks (first_texts_of query rs) → WritesPart (Unfinished (first_texts query) rs) sinks
part_taken query rs sinks writes = record { texts = first_texts_of query rs; are = inr (refused_of query rs, are_first query rs); writes = writes }

promised : Laws → (status : Status) (query : QueryTree) (call : SearchCall) (archive : List ℕ) (rs : List ReadResult) → AllRead call archive rs
    → Before query call → StatusPromise status (first_texts query) call
    → (AnswersAll (first_texts query) call → IsOneOf status (Done ∷ DoneWithRefusals ∷ NoMemory ∷ [])) → AnswerPromise (first_texts query) status call
promised laws status query call archive rs all before says complete =
    ends status (first_texts query) call archive rs all (no_more laws query call before) says complete

first_read : Laws → (status : Status) (query : QueryTree) (call : SearchCall) (archive : List ℕ) (rs : List ReadResult) → AllRead call archive rs
    → Before query call → FirstWritten (refused_of query rs) (first_texts_of query rs) call.sinks status → AnswerPromise (first_texts query) status call
first_read laws Done query call archive rs all before writes =
    promised laws Done query call archive rs all before (
      inl (finds_all call archive rs _ all (all_taken query rs call.sinks (λ n. n ≡ 0) writes.0 writes.1)),
      record { source = all.counts; sinks = writes.2 },
    ) (λ _. inl refl)
first_read laws DoneWithRefusals query call archive rs all before writes =
    promised laws DoneWithRefusals query call archive rs all before (
      inl (finds_all call archive rs _ all (all_taken query rs call.sinks (λ n. 0 < n) writes.0 writes.1)),
      record { source = all.counts; sinks = writes.2 },
    ) (λ _. inr (inl refl))
first_read laws WriteFault query call archive rs all before writes =
    promised laws WriteFault query call archive rs all before (
      writes.1,
      all.counts,
      inr (finds_all call archive rs _ all (part_taken query rs call.sinks writes.0)),
    )
    (λ every. absurd (every.no_write (some_failed call.sinks writes.1)))
first_read laws NoMemory query call archive rs all before writes =
    promised laws NoMemory query call archive rs all before (
      inr (finds_all call archive rs _ all (part_taken query rs call.sinks writes.0)),
      record { source = all.counts; sinks = writes.1 },
    ) (λ _. inr (inr (inl refl)))
first_read laws QueryRefused query call archive rs all before writes = absurd writes
first_read laws WordsRefused query call archive rs all before writes = absurd writes
first_read laws OpenFault query call archive rs all before writes = absurd writes
first_read laws ReadFault query call archive rs all before writes = absurd writes
first_read laws ArchiveTooLong query call archive rs all before writes = absurd writes

-- ---- before all was read

-- the texts that were written, whatever games follow
ever : (query : QueryTree) (call : SearchCall) (rs : List ReadResult) → ((more : List ReadResult) → WritesPrefix call.sinks (first_texts_of query (rs ++ more)))
    → WritesEver (first_texts query) call rs
ever query call rs writes = λ more. record {
  texts = first_texts_of query (rs ++ more);
  are = (refused_of query (rs ++ more), are_first query (rs ++ more));
  writes = writes more;
}

-- the whole batches of the bytes taken have the first match
record HasFirst (query : QueryTree) (call : SearchCall) : Type 0 where
  pub front : List ℕ
  pub outcomes : List ReadResult
  pub reads : Reads call.limit call.source.left call.source_after.left front
  pub are_read : AreRead front (whole_spans front) outcomes
  pub some : some_match query outcomes ≡ true

early_found : (query : QueryTree) (call : SearchCall) (AreRefused : ℕ → Type 0) → (has : HasFirst query call) → AreRefused (refused_of query has.outcomes)
    → Writes call.sinks (first_texts_of query has.outcomes)
    → ReadsPrefix call whole_spans (λ front outcomes. WritesAll ((first_texts query).early outcomes) AreRefused call.sinks)
early_found query call AreRefused has refused writes = record {
  front = has.front;
  outcomes = has.outcomes;
  takes = has.reads.takes;
  few = has.reads.few;
  are_read = has.are_read;
  holds = record {
    refused = refused_of query has.outcomes;
    is = refused;
    writes = record { texts = first_texts_of query has.outcomes; are = (has.some, are_first query has.outcomes); writes = writes };
  };
}

ends_early : (query : QueryTree) (call : SearchCall) → HasFirst query call → EndsEarly (first_texts query) call
ends_early query call has = (
  has.front,
  has.reads.takes,
  record {
    outcomes = has.outcomes;
    are_read = has.are_read;
    refused = refused_of query has.outcomes;
    texts = first_texts_of query has.outcomes;
    early = (has.some, are_first query has.outcomes);
  },
)

early_promised : Laws → (status : Status) (query : QueryTree) (call : SearchCall) → Before query call → HasFirst query call
    → StatusPromise status (first_texts query) call → IsOneOf status (Done ∷ DoneWithRefusals ∷ NoMemory ∷ []) → AnswerPromise (first_texts query) status call
early_promised laws status query call before has says good = record {
  says = says;
  takes = takes_some call has.front has.reads;
  reads_no_more = no_more laws query call before;
  too_long_always = λ _. inr (ends_early query call has);
  complete = λ _. good;
}

-- the texts of a match do not change with more games
same_prefix : (query : QueryTree) (rs more : List ReadResult) (sinks : Sinks) → some_match query rs ≡ true → WritesPrefix sinks (first_texts_of query rs)
    → WritesPrefix sinks (first_texts_of query (rs ++ more))
same_prefix query rs more sinks some writes = subst (λ (t : Texts). WritesPrefix sinks t) (sym (texts_same query rs more some)) writes

found_open : Laws → (status : Status) (query : QueryTree) (call : SearchCall) (known : Known call) → Before query call → call.source_after.faults ≡ call.source.faults
    → FoundOne query call.sinks status known.outcomes → (has : HasFirst query call)
    → FirstWritten (refused_of query has.outcomes) (first_texts_of query has.outcomes) call.sinks status → AnswerPromise (first_texts query) status call
found_open laws Done query call known before counts one has all =
    early_promised laws Done query call before has (inr (early_found query call (λ n. n ≡ 0) has all.0 all.1), record { source = counts; sinks = all.2 }) (inl refl)
found_open laws DoneWithRefusals query call known before counts one has all =
    early_promised laws DoneWithRefusals query call before has (inr (early_found query call (λ n. 0 < n) has all.0 all.1), record { source = counts; sinks = all.2 })
    (inr (inl refl))
found_open laws WriteFault query call known before counts one has all =
    breaks_off laws (first_texts query) call known (no_more laws query call before)
    (ever query call known.outcomes (λ more. same_prefix query known.outcomes more call.sinks one.some one.writes.0)) counts one.writes.1
found_open laws NoMemory query call known before counts one has all =
    starves laws (first_texts query) call known (no_more laws query call before)
    (ever query call known.outcomes (λ more. same_prefix query known.outcomes more call.sinks one.some one.writes.0)) (record { source = counts; sinks = one.writes.1 })
found_open laws QueryRefused query call known before counts one has all = absurd all
found_open laws WordsRefused query call known before counts one has all = absurd all
found_open laws OpenFault query call known before counts one has all = absurd all
found_open laws ReadFault query call known before counts one has all = absurd all
found_open laws ArchiveTooLong query call known before counts one has all = absurd all

found_by : Laws → (status : Status) (query : QueryTree) (call : SearchCall) (known : Known call) → Before query call → call.source_after.faults ≡ call.source.faults
    → FoundOne query call.sinks status known.outcomes
    → AreLeadingGames known.games (whole known.front) ⊎ (ReadsAll call.limit call.source.left call.source_after.left known.front × AreLeadingGames known.games (cut_games known.front))
    → AnswerPromise (first_texts query) status call
found_by laws status query call known before counts one (inl first) =
    let on : ReadOn known.front (whole_spans known.front) known.outcomes =
    read_on laws known.front (whole_spans known.front) known.games known.outcomes (first_spans laws known.front known.games first) known.are_read in
    let has : HasFirst query call = record {
      front = known.front;
      outcomes = known.outcomes ++ on.more;
      reads = known.reads;
      are_read = on.are_read;
      some = some_grows query known.outcomes on.more one.some;
    } in
    found_open laws status query call known before counts one has (written_more status query known.outcomes on.more call.sinks one.some one.writes)
found_by laws status query call known before counts one (inr (all, first)) =
    let on : ReadOn known.front (cut known.front) known.outcomes = read_on laws known.front (cut known.front) known.games known.outcomes first known.are_read in
    first_read laws status query call known.front (known.outcomes ++ on.more) (record { reads = all; counts = counts; are_read = on.are_read }) before
    (written_more status query known.outcomes on.more call.sinks one.some one.writes)

-- a match was found in the batch
found_one : Laws → (status : Status) (query : QueryTree) (call : SearchCall) (known : Known call) → Before query call → call.source_after.faults ≡ call.source.faults
    → FoundOne query call.sinks status known.outcomes → AnswerPromise (first_texts query) status call
found_one laws status query call known before counts one = found_by laws status query call known before counts one known.first

-- ---- after a fault of reading

-- the games of the whole batches of the bytes read were searched, and none matches
abbrev WholeUnmatched : QueryTree → (call : SearchCall) → SearchState → (AreRead : ℕ → Type 0) → Type 0
WholeUnmatched query call stand AreRead = TakesWhole call.limit call.source.left call.source_after.left AreRead (λ games. HaveReadResults games (FoundNone query call.sinks stand))

broken : (query : QueryTree) (call : SearchCall) (stand : SearchState) (AreRead : ℕ → Type 0) → WholeUnmatched query call stand AreRead → Broken (first_texts query) call AreRead
broken query call stand AreRead at =
    let rs = at.taken.outcomes in
    let so = at.taken.holds in
    let nothing : flat_map (export_if query) rs ≡ [] =
    ap (flat_map (export_if query)) (sym (all_up query rs so.none)) ∙ first_is query rs ∙ no_first query rs so.none in
    record {
      front = at.front;
      outcomes = rs;
      reads = at.reads;
      count = at.count;
      are_read = at.taken.are_read;
      writes = record {
        texts = record { out = []; err = fault_lines 1 rs };
        are = (so.none, refl);
        writes = record { out = subst (Grew call.sinks.out.taken call.sinks.out_after.taken) nothing so.found.writes.out; err = so.found.writes.err };
      };
    }

before_break : Laws → (query : QueryTree) (call : SearchCall) (stand : SearchState) (AreRead : ℕ → Type 0) → WholeUnmatched query call stand AreRead → Before query call
before_break laws query call stand AreRead at = record {
  front = at.front;
  games = whole at.front;
  outcomes = at.taken.outcomes;
  takes = at.reads.takes;
  are_read = at.taken.are_read;
  none = at.taken.holds.none;
  needed = whole_begins laws (length at.front - most_read) at.front;
}

first_unread : Laws → (query : QueryTree) (call : SearchCall) (stand : SearchState) → WholeUnmatched query call stand (λ n. n ≤ call.limit)
    → Rose call.source.faults call.source_after.faults → AnswerPromise (first_texts query) ReadFault call
first_unread laws query call stand at rose =
    unread laws (first_texts query) call (broken query call stand (λ n. n ≤ call.limit) at)
    (no_more laws query call (before_break laws query call stand (λ n. n ≤ call.limit) at)) rose at.taken.holds.found.unfailed

-- the first bytes of an archive are the first ones of those that were taken
first_bytes : (archive front : List ℕ) (after : Option (List ℕ)) (limit : ℕ) → Consumes (Some archive) after front → limit < length front → take limit archive ≡ take limit front
first_bytes archive front None limit takes long = absurd takes
first_bytes archive front (Some rest) limit takes long = ap (take limit) takes ∙ take-append-le limit front rest (omega (arith, long))

first_too_long : Laws → (query : QueryTree) (call : SearchCall) (stand : SearchState) → WholeUnmatched query call stand (λ n. call.limit < n)
    → call.source_after.faults ≡ call.source.faults → AnswerPromise (first_texts query) ArchiveTooLong call
first_too_long laws query call stand at counts =
    too_long laws (first_texts query) call (broken query call stand (λ n. call.limit < n) at)
    (no_more laws query call (before_break laws query call stand (λ n. call.limit < n) at))
    (λ archive tells enough.
    let same = first_bytes archive at.front call.source_after.left call.limit (subst (λ l. Consumes l call.source_after.left at.front) tells at.reads.takes) at.count in
    not_enough laws query (take call.limit at.front) (whole at.front) at.taken.outcomes (whole_begins laws call.limit at.front) at.taken.are_read at.taken.holds.none
    (subst (Suffices (first_texts query)) same enough))
    (record { source = counts; sinks = at.taken.holds.found.unfailed })

-- ---- the end of a call

before_of : (query : QueryTree) (call : SearchCall) (games batch : KeptGames) (rs : List ReadResult) → Gives call.limit call.source.left call.source_after.left games batch
    → AreReadResults games rs → some_match query rs ≡ false → Before query call
before_of query call games batch rs gives read none = record {
  front = gives.front;
  games = games;
  outcomes = rs;
  takes = gives.reads.takes;
  are_read = read;
  none = none;
  needed = gives.needed;
}

stopped_or_found : Laws → (status : Status) (query : QueryTree) (call : SearchCall) (known : Known call) → Before query call → call.source_after.faults ≡ call.source.faults
    → StopsIn (texts_so_far false query (up_to_first query known.outcomes)) call.sinks status ⊎ FoundOne query call.sinks status known.outcomes
    → AnswerPromise (first_texts query) status call
stopped_or_found laws status query call known before counts (inl stops) =
    stopped laws status (first_texts query) call known (texts_so_far false query (up_to_first query known.outcomes)) (no_more laws query call before)
    (λ writes. ever query call known.outcomes (λ more. first_prefix query known.outcomes more call.sinks writes)) counts stops
stopped_or_found laws status query call known before counts (inr one) = found_one laws status query call known before counts one

-- it was stopped at a batch
pub first_stopped : Laws → (status : Status) (query : QueryTree) (call : SearchCall) (games batch : KeptGames)
    → Gives call.limit call.source.left call.source_after.left games batch → call.source_after.faults ≡ call.source.faults
    → FirstStopped query call.sinks status games batch → AnswerPromise (first_texts query) status call
first_stopped laws status query call games batch gives counts at =
    stopped_or_found laws status query call (known_of call games batch at.after.outcomes gives at.after.are_read)
    (before_of query call games batch at.before.outcomes gives at.before.are_read at.before.holds) counts at.after.holds

-- the texts of games without a match
so_far_prefix : (query : QueryTree) (rs : List ReadResult) (sinks : Sinks) (stand : SearchState) → FoundNone query sinks stand rs
    → WritesPrefix sinks (texts_so_far false query (up_to_first query rs))
so_far_prefix query rs sinks stand so =
    as_prefix sinks (texts_so_far false query (up_to_first query rs))
    (subst (λ l. Writes sinks (texts_so_far false query l)) (sym (all_up query rs so.none)) so.found.writes)

-- out of memory for the next batch
first_starves : Laws → (query : QueryTree) (call : SearchCall) (stand : SearchState) (games : KeptGames) → Gives call.limit call.source.left call.source_after.left games []
    → call.source_after.faults ≡ call.source.faults → HaveReadResults games (FoundNone query call.sinks stand) → AnswerPromise (first_texts query) NoMemory call
first_starves laws query call stand games gives counts at =
    first_stopped laws NoMemory query call games [] gives counts (record {
      before = record { outcomes = at.outcomes; are_read = at.are_read; holds = at.holds.none };
      after = record {
        outcomes = at.outcomes;
        are_read = with_none games at.outcomes at.are_read;
        holds = inl (so_far_prefix query at.outcomes call.sinks stand at.holds, at.holds.found.unfailed);
      };
    })

-- there are no more batches, and the last line is written
pub first_ended : Laws → (status : Status) (query : QueryTree) (call : SearchCall) (sinks : Sinks) (stand : SearchState) (archive : List ℕ)
    → call.sinks ≡ with_err sinks call.sinks.err_after → ReadsAll call.limit call.source.left call.source_after.left archive → call.source_after.faults ≡ call.source.faults
    → HaveReadResults (cut_games archive) (FoundNone query sinks stand) → WritesSummary stand.tally sinks.err_after call.sinks.err_after status
    → AnswerPromise (first_texts query) status call
first_ended laws status query call sinks stand archive same reads counts at writes =
    let rs = at.outcomes in
    first_read laws status query call archive rs (all_read laws call archive rs reads counts at.are_read)
    (record {
      front = archive;
      games = cut_games archive;
      outcomes = rs;
      takes = reads.takes;
      are_read = at.are_read;
      none = at.holds.none;
      needed = cut_begins laws (length archive - most_read) archive;
    })
    (subst (λ s. FirstWritten (refused_of query rs) (first_texts_of query rs) s status) (sym same)
    (first_written status query rs sinks call.sinks.err_after stand.tally stand.kept
    (subst (λ l. FoundSoFar false query l sinks stand) (sym (all_up query rs at.holds.none)) at.holds.found) writes))

-- each refusal ends the call with its own status
pub first_refused : Laws → {X : Type 0} (refusal : Refusal BatchFault) (query : QueryTree) (call : SearchCall) (stand : SearchState) (HasVisited : KeptGames → Type 0)
    (Stopped : KeptGames → KeptGames → X → Type 0) → ((games : KeptGames) → HasVisited games → HaveReadResults games (FoundNone query call.sinks stand))
    → IsVisitResult call.limit call.source.left call.source_after.left HasVisited Stopped (Err refusal)
    → HasVisitCause {X = X} call.source.faults call.source_after.faults (Err refusal) → AnswerPromise (first_texts query) (status_after refusal) call
first_refused laws (Fault TheReadFault) query call stand HasVisited Stopped none at rose =
    first_unread laws query call stand (record { front = at.front; reads = at.reads; count = at.count; taken = none (whole at.front) at.taken }) rose
first_refused laws (Fault TheArchiveTooLong) query call stand HasVisited Stopped none at counts =
    first_too_long laws query call stand (record { front = at.front; reads = at.reads; count = at.count; taken = none (whole at.front) at.taken }) counts
first_refused laws IsNoMemory query call stand HasVisited Stopped none at counts = first_starves laws query call stand at.0 at.1 counts (none at.0 at.2)

-- before the first batch
pub first_begins : (query : QueryTree) (out err : SinkView) → HaveReadResults [] (FoundNone query (sinks_of out out err err) (search_state (tally_with 0 0 0) []))
first_begins query out err = record { outcomes = []; are_read = tt; holds = record { none = refl; found = none_found false query out err } }

-- ---- out of memory before anything was read

no_games : (games : KeptGames) → length games ≡ 0 → games ≡ []
no_games [] none = refl
no_games (g ∷ gs) none = absurd (omega (arith, none))

-- nothing was read, and no batch is full
no_batches : Laws → (k : ℕ) → AreLeadingGames (whole (take k [])) []
no_batches laws k =
    let count = count_within 0 0 (cut []) (laws.batches.order []) (omega arith) in
    let same = length-map (cut []) (kept []) in
    subst (λ gs. AreLeadingGames (whole (take k [])) gs) (no_games (cut_games []) (omega (arith, count, same))) (cut_begins laws k [])

none_answered : Laws → (query : QueryTree) (limit : ℕ) (source : SourceView) (out err : SinkView)
    → AnswerPromise (first_texts query) NoMemory (answer_call limit source source (sinks_of out out err err))
none_answered laws query limit source out err =
    let call = answer_call limit source source (sinks_of out out err err) in
    first_starves laws query call (search_state (tally_with 0 0 0) []) [] (record {
      front = [];
      reads = record { takes = consumes_none source.left; few = omega arith };
      first = inl (whole [], refl);
      needed = no_batches laws (0 - most_read);
    }) refl (first_begins query out err)

-- in either run
pub unanswered : Laws → (first : Bool) (query : QueryTree) (limit : ℕ) (source : SourceView) (out err : SinkView)
    → AnswerPromise (expected_output first query) NoMemory (answer_call limit source source (sinks_of out out err err))
unanswered laws true query limit source out err = none_answered laws query limit source out err
unanswered laws false query limit source out err = all_unanswered laws.have (full_output_of (have_sort query.items) query refl) limit source out err
