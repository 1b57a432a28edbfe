-- The end of a call, from the visit of the batches of the archive.
use Rattle.std.proofs.Common.{◌≡◌, ◌⊎◌, ℕ, ◌≤◌, ◌<◌, List, [], ◌∷◌, ◌++◌, length, take, Some, refl, arith, subst, inl, inr}
use Rattle.pgn_batches.specs.Visits.{AreLeadingGames, Reads, ReadsAll}
use Rattle.pgn_batches.specs.Whole.{cut_games, whole, whole_spans}
use Rattle.cq_outside.specs.Faults.{Rose}
use Rattle.pgn_cut.specs.Cut.{cut, closed}
use Rattle.cq_shards.specs.ReadResults.{ReadResult, AreReadResults}
use Rattle.cq_query_files.specs.declared.status.Status.{Status}
use Rattle.cq_query_files.specs.declared.status.Status.TheVariants.{Done, DoneWithRefusals, QueryRefused, WordsRefused, OpenFault, ReadFault, WriteFault, NoMemory, ArchiveTooLong}
use Rattle.cq_search.specs.Internal.ByBatches.{Laws}
use Rattle.cq_search.specs.Promise.{SearchCall, OutputSpec, ReadsArchive, EndsWithPartialOutput, EndsAtReadFault, WritesPart, WritesSome, StatusPromise, Suffices, AnswersAll, AnswerPromise, ReadsNoMore, NothingFails, IsOneOf}
use Rattle.cq_query_files.specs.Views.{Texts, WritesPrefix, NoWriteFailed, OneSinkFailed}
use Rattle.cq_search.specs.Internal.Visits.{StopsIn}
use Rattle.cq_search.proofs.AnswerPromise.{may_be, not_overrun, not_too_long}
use Rattle.cq_search.proofs.Given.{reads_archive, whole_are}
use Rattle.cq_search.proofs.Known.{AllRead, Known, ReadOn, first_closed, read_on, takes_some}
use Rattle.cq_query_files.proofs.Sinks.{some_failed}

-- ---- the visit was stopped

-- Each sink has taken a prefix of its text, whatever games follow.
abbrev pub WritesEver : OutputSpec → SearchCall → List ReadResult → Type 0
WritesEver expected_output call outcomes = (more : List ReadResult) → WritesPart (expected_output.reading (outcomes ++ more)) call.sinks

stops_by : Laws → (expected_output : OutputSpec) (call : SearchCall) (known : Known call) → WritesEver expected_output call known.outcomes
    → AreLeadingGames known.games (whole known.front) ⊎ (ReadsAll call.limit call.source.left call.source_after.left known.front × AreLeadingGames known.games (cut_games known.front))
    → EndsWithPartialOutput expected_output call
stops_by laws expected_output call known writes (inl first) =
    let on : ReadOn known.front (closed known.front) known.outcomes =
    read_on laws known.front (closed known.front) known.games known.outcomes (first_closed laws known.front known.games first) known.are_read in
    inl (record {
      front = known.front;
      outcomes = known.outcomes ++ on.more;
      takes = known.reads.takes;
      few = known.reads.few;
      are_read = on.are_read;
      holds = writes on.more;
    })
stops_by laws expected_output call known writes (inr (all, first)) =
    let on : ReadOn known.front (cut known.front) known.outcomes = read_on laws known.front (cut known.front) known.games known.outcomes first known.are_read in
    let part = writes on.more in
    inr (record {
      archive = known.front;
      outcomes = known.outcomes ++ on.more;
      reads = record {
        is = may_be call.source.left call.source_after.left known.front all.takes all.at_end;
        within = all.within;
        at_end = all.at_end;
      };
      are_read = on.are_read;
      holds = record { texts = part.texts; are = inl part.are; writes = part.writes };
    })

-- out of memory
pub starves : Laws → (expected_output : OutputSpec) (call : SearchCall) (known : Known call) → ReadsNoMore expected_output call → WritesEver expected_output call known.outcomes → NothingFails call
    → AnswerPromise expected_output NoMemory call
starves laws expected_output call known needed writes unfailed = record {
  says = (stops_by laws expected_output call known writes known.first, unfailed);
  takes = takes_some call known.front known.reads;
  reads_no_more = needed;
  too_long_always = λ _. inl (inr (inr (inl refl)));
  complete = λ _. inr (inr (inl refl));
}

-- a write that failed
pub breaks_off : Laws → (expected_output : OutputSpec) (call : SearchCall) (known : Known call) → ReadsNoMore expected_output call → WritesEver expected_output call known.outcomes
    → call.source_after.faults ≡ call.source.faults → OneSinkFailed call.sinks → AnswerPromise expected_output WriteFault call
breaks_off laws expected_output call known needed writes counts failed = record {
  says = (failed, counts, stops_by laws expected_output call known writes known.first);
  takes = takes_some call known.front known.reads;
  reads_no_more = needed;
  too_long_always = λ _. inl (inr (inl refl));
  complete = λ all. absurd (all.no_write (some_failed call.sinks failed));
}

-- either of them
pub stopped : Laws → (status : Status) (expected_output : OutputSpec) (call : SearchCall) (known : Known call) (texts : Texts) → ReadsNoMore expected_output call
    → (WritesPrefix call.sinks texts → WritesEver expected_output call known.outcomes) → call.source_after.faults ≡ call.source.faults → StopsIn texts call.sinks status
    → AnswerPromise expected_output status call
stopped laws WriteFault expected_output call known texts needed ever counts stops = breaks_off laws expected_output call known needed (ever stops.0) counts stops.1
stopped laws NoMemory expected_output call known texts needed ever counts stops = starves laws expected_output call known needed (ever stops.0) (record { source = counts; sinks = stops.1 })
stopped laws Done expected_output call known texts needed ever counts stops = absurd stops
stopped laws DoneWithRefusals expected_output call known texts needed ever counts stops = absurd stops
stopped laws QueryRefused expected_output call known texts needed ever counts stops = absurd stops
stopped laws WordsRefused expected_output call known texts needed ever counts stops = absurd stops
stopped laws OpenFault expected_output call known texts needed ever counts stops = absurd stops
stopped laws ReadFault expected_output call known texts needed ever counts stops = absurd stops
stopped laws ArchiveTooLong expected_output call known texts needed ever counts stops = absurd stops

-- ---- after a fault of reading

-- the games of the whole batches of the bytes read were searched
pub record Broken (expected_output : OutputSpec) (call : SearchCall) (AreTaken : ℕ → Type 0) : Type 0 where
  pub front : List ℕ
  pub outcomes : List ReadResult
  pub reads : Reads call.limit call.source.left call.source_after.left front
  pub count : AreTaken (length front)
  pub are_read : AreReadResults (whole front) outcomes
  pub writes : WritesSome (expected_output.faulted outcomes) call.sinks

breaks : Laws → (expected_output : OutputSpec) (call : SearchCall) (AreTaken Are : ℕ → Type 0) → (at : Broken expected_output call AreTaken) → Are (length at.front) → EndsAtReadFault expected_output call Are
breaks laws expected_output call AreTaken Are at count = record {
  front = at.front;
  outcomes = at.outcomes;
  takes = at.reads.takes;
  few = at.reads.few;
  are_read = reads_archive laws at.front (whole_spans at.front) at.outcomes (subst (λ gs. AreReadResults gs at.outcomes) (whole_are laws at.front) at.are_read);
  holds = (count, at.writes);
}

pub unread : Laws → (expected_output : OutputSpec) (call : SearchCall) → Broken expected_output call (λ n. n ≤ call.limit) → ReadsNoMore expected_output call
    → Rose call.source.faults call.source_after.faults → NoWriteFailed call.sinks → AnswerPromise expected_output ReadFault call
unread laws expected_output call at needed rose unfailed = record {
  says = (rose, unfailed, breaks laws expected_output call (λ n. n ≤ call.limit) (λ n. Unit {0}) at tt);
  takes = takes_some call at.front at.reads;
  reads_no_more = needed;
  too_long_always = λ much. absurd (not_overrun call.limit call.source call.source_after (record { bytes = at.front; takes = at.reads.takes; few = at.count }) much);
  complete = λ all. absurd (all.no_read rose);
}

never_within : (expected_output : OutputSpec) (call : SearchCall) (archive : List ℕ) → ((length archive ≤ call.limit) → ⊥) → (Suffices expected_output (take call.limit archive) → ⊥)
    → (length archive ≤ call.limit) ⊎ Suffices expected_output (take call.limit archive) → ⊥
never_within expected_output call archive long never (inl few) = long few
never_within expected_output call archive long never (inr enough) = never enough

pub too_long : Laws → (expected_output : OutputSpec) (call : SearchCall) → (at : Broken expected_output call (λ n. call.limit < n)) → ReadsNoMore expected_output call
    → ((archive : List ℕ) → call.source.left ≡ Some archive → Suffices expected_output (take call.limit archive) → ⊥) → NothingFails call → AnswerPromise expected_output ArchiveTooLong call
too_long laws expected_output call at needed never unfailed = record {
  says = (breaks laws expected_output call (λ n. call.limit < n) (λ n. call.limit < n) at at.count, unfailed);
  takes = takes_some call at.front at.reads;
  reads_no_more = needed;
  too_long_always = λ _. inl (inl refl);
  complete = λ every. absurd (never_within expected_output call every.archive
      (λ few. not_too_long call.limit call.source call.source_after every.archive every.tells few (record { bytes = at.front; takes = at.reads.takes; long = at.count }))
      (never every.archive every.tells) every.within);
}

-- ---- all games were searched

pub finds_all : (call : SearchCall) (archive : List ℕ) (outcomes : List ReadResult) (Holds : List ReadResult → Type 0) → AllRead call archive outcomes → Holds outcomes → ReadsArchive call Holds
finds_all call archive outcomes Holds all holds = record {
  archive = archive;
  outcomes = outcomes;
  reads = record {
    is = may_be call.source.left call.source_after.left archive all.reads.takes all.reads.at_end;
    within = all.reads.within;
    at_end = all.reads.at_end;
  };
  are_read = all.are_read;
  holds = holds;
}

pub ends : (status : Status) (expected_output : OutputSpec) (call : SearchCall) (archive : List ℕ) (outcomes : List ReadResult) → AllRead call archive outcomes → ReadsNoMore expected_output call
    → StatusPromise status expected_output call → (AnswersAll expected_output call → IsOneOf status (Done ∷ DoneWithRefusals ∷ NoMemory ∷ [])) → AnswerPromise expected_output status call
ends status expected_output call archive outcomes all needed says complete = record {
  says = says;
  takes = record { bytes = archive; takes = all.reads.takes; few = let w = all.reads.within in omega (arith, w) };
  reads_no_more = needed;
  too_long_always = λ much.
      absurd (not_overrun call.limit call.source call.source_after (record { bytes = archive; takes = all.reads.takes; few = all.reads.within }) much);
  complete = complete;
}
