-- The end of a call over all games, from the visit of the batches of the archive.
use Rattle.std.proofs.Common.{◌≡◌, ℕ, ◌+◌, ◌≤◌, ◌<◌, List, [], ◌∷◌, ◌++◌, Err, refl, arith, inl, inr}
use Rattle.pgn_batches.specs.KeptGames.{KeptGames}
use Rattle.pgn_batches.specs.Visits.{Gives, HasVisitCause, ReadsAll, IsVisitResult, TakesWhole}
use Rattle.pgn_batches.specs.Whole.{cut_games, whole}
use Rattle.pgn_batches.specs.declared.state.BatchFault.{BatchFault}
use Rattle.pgn_batches.specs.declared.state.BatchFault.TheVariants.{ReadFault as TheReadFault, ArchiveTooLong as TheArchiveTooLong}
use Rattle.cq_outside.specs.Flow.{TakesAtMost}
use Rattle.cq_common.specs.declared.faults.Refusal.{Refusal}
use Rattle.cq_common.specs.declared.faults.Refusal.TheVariants.{Fault, NoMemory as IsNoMemory}
use Rattle.cq_shards.specs.ReadResults.{ReadResult, AreReadResults}
use Rattle.cq_query_files.specs.declared.status.Status.{Status}
use Rattle.cq_query_files.specs.declared.status.Status.TheVariants.{Done, DoneWithRefusals, QueryRefused, WordsRefused, OpenFault, ReadFault, WriteFault, NoMemory, ArchiveTooLong}
use Rattle.cq_search.specs.Internal.ByBatches.{Laws}
use Rattle.cq_search.specs.Promise.{SearchCall, AnswersAll, AnswerPromise, ReadsNoMore, StatusPromise, IsOneOf}
use Rattle.cq_query_files.specs.Views.{Sinks, Writes, NoWriteFailed}
use Rattle.cq_search.specs.Internal.BatchRefusal.{status_after}
use Rattle.cq_search.specs.Internal.Visits.{HaveReadResults, StopsIn}
use Rattle.cq_search.specs.Internal.Writing.{WritesAnswer}
use Rattle.cq_search.proofs.AnswerPromise.{FullOutput, needs_all}
use Rattle.cq_search.proofs.GameByGame.{as_prefix}
use Rattle.cq_search.proofs.Known.{AllRead, all_read, known_of, takes_some, with_none}
use Rattle.cq_search.proofs.Endings.{Broken, ends, finds_all, stopped, too_long, unread}
use Rattle.cq_query_files.proofs.Sinks.{some_failed}

needs : (asked : FullOutput) (call : SearchCall) → TakesAtMost (call.limit + 1) call.source.left call.source_after.left → ReadsNoMore asked.expected_output call
needs asked call some = needs_all asked call.limit call.source call.source_after call.sinks some

-- the texts of the games are written
abbrev pub IsWritten : FullOutput → Sinks → List ReadResult → Type 0
IsWritten asked sinks outcomes = Writes sinks (asked.so_far outcomes) × NoWriteFailed sinks

-- it was stopped at a batch
pub all_stopped : Laws → (status : Status) (asked : FullOutput) (call : SearchCall) (games batch : KeptGames)
    → Gives call.limit call.source.left call.source_after.left games batch → call.source_after.faults ≡ call.source.faults
    → HaveReadResults (games ++ batch) (λ outcomes. StopsIn (asked.so_far outcomes) call.sinks status) → AnswerPromise asked.expected_output status call
all_stopped laws status asked call games batch gives counts at =
    stopped laws status asked.expected_output call (known_of call games batch at.outcomes gives at.are_read) (asked.so_far at.outcomes)
    (needs asked call (takes_some call gives.front gives.reads))
    (λ writes more. record {
      texts = asked.so_far (at.outcomes ++ more);
      are = asked.reading (at.outcomes ++ more);
      writes = asked.grows at.outcomes more call.sinks writes;
    }) counts at.holds

-- out of memory for the next batch
all_starves : Laws → (asked : FullOutput) (call : SearchCall) (games : KeptGames) → Gives call.limit call.source.left call.source_after.left games []
    → call.source_after.faults ≡ call.source.faults → HaveReadResults games (IsWritten asked call.sinks) → AnswerPromise asked.expected_output NoMemory call
all_starves laws asked call games gives counts at =
    all_stopped laws NoMemory asked call games [] gives counts (record {
      outcomes = at.outcomes;
      are_read = with_none games at.outcomes at.are_read;
      holds = (as_prefix call.sinks (asked.so_far at.outcomes) at.holds.0, at.holds.1);
    })

-- ---- the refusal of the next batch

-- games that are taken are read, and their texts are written
abbrev pub AreWritten : FullOutput → Sinks → (KeptGames → Type 0) → Type 0
AreWritten asked sinks HasVisited = (games : KeptGames) → HasVisited games → HaveReadResults games (IsWritten asked sinks)

-- the games of the whole batches were taken
abbrev WholeTaken : (call : SearchCall) → (AreRead : ℕ → Type 0) → (KeptGames → Type 0) → Type 0
WholeTaken call AreRead HasVisited = TakesWhole call.limit call.source.left call.source_after.left AreRead HasVisited

broken : (asked : FullOutput) (call : SearchCall) (AreRead : ℕ → Type 0) (HasVisited : KeptGames → Type 0) → AreWritten asked call.sinks HasVisited → WholeTaken call AreRead HasVisited
    → Broken asked.expected_output call AreRead
broken asked call AreRead HasVisited writes at =
    let so = writes (whole at.front) at.taken in record {
      front = at.front;
      outcomes = so.outcomes;
      reads = at.reads;
      count = at.count;
      are_read = so.are_read;
      writes = record { texts = asked.so_far so.outcomes; are = asked.faulted so.outcomes; writes = so.holds.0 };
    }

-- each refusal ends the call with its own status
pub all_refused : Laws → {X : Type 0} (refusal : Refusal BatchFault) (asked : FullOutput) (call : SearchCall) (HasVisited : KeptGames → Type 0)
    (Stopped : KeptGames → KeptGames → X → Type 0) → AreWritten asked call.sinks HasVisited
    → IsVisitResult call.limit call.source.left call.source_after.left HasVisited Stopped (Err refusal)
    → HasVisitCause {X = X} call.source.faults call.source_after.faults (Err refusal) → AnswerPromise asked.expected_output (status_after refusal) call
all_refused laws (Fault TheReadFault) asked call HasVisited Stopped writes at rose =
    unread laws asked.expected_output call (broken asked call (λ n. n ≤ call.limit) HasVisited writes at) (needs asked call (takes_some call at.front at.reads)) rose
    (writes (whole at.front) at.taken).holds.1
all_refused laws (Fault TheArchiveTooLong) asked call HasVisited Stopped writes at counts =
    too_long laws asked.expected_output call (broken asked call (λ n. call.limit < n) HasVisited writes at) (needs asked call (takes_some call at.front at.reads))
    (λ archive tells enough. asked.never enough.outcomes enough.refused enough.texts enough.early)
    (record { source = counts; sinks = (writes (whole at.front) at.taken).holds.1 })
all_refused laws IsNoMemory asked call HasVisited Stopped writes at counts = all_starves laws asked call at.0 at.1 counts (writes at.0 at.2)

-- ---- all games were searched

promised : (status : Status) (asked : FullOutput) (call : SearchCall) (archive : List ℕ) (rs : List ReadResult) → AllRead call archive rs
    → StatusPromise status asked.expected_output call → (AnswersAll asked.expected_output call → IsOneOf status (Done ∷ DoneWithRefusals ∷ NoMemory ∷ []))
    → AnswerPromise asked.expected_output status call
promised status asked call archive rs all says complete =
    ends status asked.expected_output call archive rs all (needs asked call (record { bytes = archive; takes = all.reads.takes; few = let w = all.reads.within in omega (arith, w) })) says complete

finished : (status : Status) (asked : FullOutput) (call : SearchCall) (archive : List ℕ) (rs : List ReadResult) → AllRead call archive rs
    → WritesAnswer asked.expected_output rs call.sinks status → AnswerPromise asked.expected_output status call
finished Done asked call archive rs all writes =
    promised Done asked call archive rs all
    (inl (finds_all call archive rs _ all writes.0), record { source = all.counts; sinks = writes.1 }) (λ _. inl refl)
finished DoneWithRefusals asked call archive rs all writes =
    promised DoneWithRefusals asked call archive rs all
    (inl (finds_all call archive rs _ all writes.0), record { source = all.counts; sinks = writes.1 }) (λ _. inr (inl refl))
finished WriteFault asked call archive rs all writes =
    promised WriteFault asked call archive rs all
    (writes.1, all.counts, inr (finds_all call archive rs _ all writes.0)) (λ every. absurd (every.no_write (some_failed call.sinks writes.1)))
finished NoMemory asked call archive rs all writes =
    promised NoMemory asked call archive rs all
    (inr (finds_all call archive rs _ all writes.0), record { source = all.counts; sinks = writes.1 }) (λ _. inr (inr (inl refl)))
finished QueryRefused asked call archive rs all writes = absurd writes
finished WordsRefused asked call archive rs all writes = absurd writes
finished OpenFault asked call archive rs all writes = absurd writes
finished ReadFault asked call archive rs all writes = absurd writes
finished ArchiveTooLong asked call archive rs all writes = absurd writes

pub all_ended : Laws → (status : Status) (asked : FullOutput) (call : SearchCall) (archive : List ℕ) (outcomes : List ReadResult)
    → ReadsAll call.limit call.source.left call.source_after.left archive → call.source_after.faults ≡ call.source.faults → AreReadResults (cut_games archive) outcomes
    → WritesAnswer asked.expected_output outcomes call.sinks status → AnswerPromise asked.expected_output status call
all_ended laws status asked call archive outcomes reads counts read writes =
    finished status asked call archive outcomes (all_read laws call archive outcomes reads counts read) writes
