-- The work for words, and the promise of `run` from it.
use Rattle.std.proofs.Common.{◌≡◌, ◌⊎◌, ℕ, ◌+◌, ◌≤◌, ◌<◌, true, List, [], ◌∷◌, ◌++◌, length, take, append-nil, Option, Some, None, Ok, Err, refl, ap, sym, ◌∙◌, arith, subst, inl, inr}
use Rattle.std.specs.Prelude.{Result}
use Rattle.std.proofs.Math.Seq.{take-append_seam}
use Rattle.std.proofs.lemmas.Bool.{cases_lt}
use Rattle.std.proofs.lemmas.List.{take_all}
use Rattle.std.specs.Io.KnownBytes.{Consumes, IsAtEnd}
use Rattle.cq_outside.specs.Faults.{Rose}
use Rattle.std.specs.Option.{option_map}
use Rattle.cq_outside.specs.DeskFiles.{bytes_of}
use Rattle.cq_common.specs.declared.faults.Refusal.{Refusal}
use Rattle.cq_common.specs.declared.faults.Refusal.TheVariants.{Fault}
use Rattle.clap.specs.Takes.{takes}
use Rattle.cq_maker.specs.GeneratedArchive.{generated_archive}
use Rattle.clap.specs.Simple.{matches_of}
use Rattle.cq_words.specs.Jobs.{Answers, job_of_words, job_in}
use Rattle.cq_words.specs.Line.{line}
use Rattle.cq_words.specs.declared.job.Job.{Job}
use Rattle.cq_words.specs.declared.job.Job.TheVariants.{Run, Eval, Check, Explain, SelfRun, Many}
use Rattle.cq_words.specs.declared.job.Settings.{Settings}
use Rattle.cq_words.specs.declared.job.WordsRefused.{WordsRefused as RefusedWords}
use Rattle.cql_syntax.specs.Trees.{QueryTree}
use Rattle.cq_query_files.specs.declared.queries.FileRefusal.{FileRefusal}
use Rattle.cq_query_files.specs.declared.queries.FileRefusal.TheVariants.{Faulty, Unopened, Unread, OutOfMemory}
use Rattle.cq_query_files.specs.declared.status.Status.{Status}
use Rattle.cq_query_files.specs.declared.status.Status.TheVariants.{Done, DoneWithRefusals, QueryRefused, WordsRefused, OpenFault, ReadFault, WriteFault, NoMemory, ArchiveTooLong}
use Rattle.cq_report.specs.Queries.{query_line}
use Rattle.cq_query_files.specs.Views.{DeskView, Sinks, IsUnwritten}
use Rattle.cq_search.specs.Promise.{OutputSpec, StatusPromise, IsOneOf}
use Rattle.cq_search.specs.FirstGame.{expected_output}
use Rattle.cq_search.specs.ManyQueries.{texts_of_all}
use Rattle.cq_run.specs.Run.{Call, from_desk, IsUnmoved}
use Rattle.cq_query_files.specs.Files.{with_open, TakesQuery, FileKind, query_file_kind, queries_file_kind}
use Rattle.cq_run.specs.Run.{WritesUsage, AnswersFile, archive_answered, archive_unopened, archive_out_of_memory}
use Rattle.cq_query_files.specs.Lines.{RefusesQuery, AcceptsQuery, WritesFlat}
use Rattle.cq_run.specs.Run.{OverText, text_accepted, text_refused, text_out_of_memory, OverFile, file_accepted, file_refused, file_unopened, file_unread, file_out_of_memory}
use Rattle.cq_run.specs.Run.{SaysAccepted, Explains, RunsMade, DoesJob, job_done, words_refused, words_out_of_memory, Asks, IsInFile, HasText, HasQueriesText}
use Rattle.cq_run.specs.Run.{NothingRose, IsShort, IsWithin, IsWithinForAll, good_answers, Promise}
use Rattle.cq_search.specs.SelfRun.{WritesTotals, WritesGenerated, totals_written, generated_out_of_memory}
use Rattle.cq_search.specs.declared.totals.Totals.{Totals}
use Rattle.cq_query_files.specs.QueryReading.{RefusesFile, TellsWhy}
use Rattle.cq_run.specs.Run.{call_of}
use Rattle.cq_run.proofs.RunFaults.{job_faults, takes_counts, unmoved_faults, usage_faults}

-- words that name a job are no fault

not_twice : (status s : Status) → status ≡ s → status ≡ WordsRefused → s ≡ WordsRefused
not_twice status s is e = sym is ∙ e

archive_not_words : (archive : List ℕ) (limit : ℕ) (asks : OutputSpec) (status : Status) (call : Call) → AnswersFile archive limit asks status call → status ≡ WordsRefused → ⊥
archive_not_words archive limit asks status call (archive_answered file opened answers) e =
    subst (λ s. StatusPromise s asks (record { limit = limit; source = file; source_after = call.desk_after.file; sinks = call.sinks })) e answers.says
archive_not_words archive limit asks status call (archive_unopened is fails same) e = let f = not_twice status OpenFault is e in cc
archive_not_words archive limit asks status call (archive_out_of_memory is same) e = let f = not_twice status NoMemory is e in cc

refusal_not_words : (text : List ℕ) (status : Status) (sinks : Sinks) → RefusesQuery text status sinks → status ≡ WordsRefused → ⊥
refusal_not_words text status sinks does e = subst (λ s. RefusesQuery text s sinks) e does

text_not_words : (text : List ℕ) (Accepted : QueryTree → Status → Call → Type 0) (status : Status) (call : Call)
    → ((q : QueryTree) → Accepted q status call → status ≡ WordsRefused → ⊥) → OverText text Accepted status call → status ≡ WordsRefused → ⊥
text_not_words text Accepted status call accepted (text_accepted query is does) e = accepted query does e
text_not_words text Accepted status call accepted (text_refused fault is does same) e = refusal_not_words (query_line fault) status call.sinks does e
text_not_words text Accepted status call accepted (text_out_of_memory is same) e = let f = not_twice status NoMemory is e in cc

file_not_words : {Q F : Type 0} (reading : FileKind Q F) (name : List ℕ) (Accepted : Q → Status → Call → Type 0) (status : Status) (call : Call)
    → ((found : Q) (mid : DeskView) → Accepted found status (from_desk mid call) → status ≡ WordsRefused → ⊥)
    → OverFile reading name Accepted status call → status ≡ WordsRefused → ⊥
file_not_words reading name Accepted status call accepted (file_accepted text found mid takes is does) e = accepted found mid does e
file_not_words reading name Accepted status call accepted (file_refused text fault takes is does) e = refusal_not_words (reading.line fault) status call.sinks does e
file_not_words reading name Accepted status call accepted (file_unopened is fails same) e = let f = not_twice status OpenFault is e in cc
file_not_words reading name Accepted status call accepted (file_unread is fails same) e = let f = not_twice status ReadFault is e in cc
file_not_words reading name Accepted status call accepted (file_out_of_memory is lacks same) e = let f = not_twice status NoMemory is e in cc

made_not_words : (archive : List ℕ) (q : QueryTree) (status : Status) (sinks : Sinks) → WritesGenerated archive q status sinks → status ≡ WordsRefused → ⊥
made_not_words archive q status sinks (totals_written totals are does) e = subst (λ s. WritesTotals totals s sinks) e does
made_not_words archive q status sinks (generated_out_of_memory is same) e = let f = not_twice status NoMemory is e in cc

job_not_words : (job : Job) (status : Status) (call : Call) → DoesJob job status call → status ≡ WordsRefused → ⊥
job_not_words (Run query archive settings) status call does e =
    file_not_words query_file_kind query (λ asks. AnswersFile archive settings.limit (expected_output settings.first asks)) status call
    (λ q mid a f. archive_not_words archive settings.limit (expected_output settings.first q) status (from_desk mid call) a f) does e
job_not_words (Eval text archive settings) status call does e =
    text_not_words text (λ asks. AnswersFile archive settings.limit (expected_output settings.first asks)) status call
    (λ q a f. archive_not_words archive settings.limit (expected_output settings.first q) status call a f) does e
job_not_words (Check query) status call does e =
    file_not_words query_file_kind query SaysAccepted status call (λ q mid a f. subst (λ s. AcceptsQuery s call.sinks) f a.0) does e
job_not_words (Explain query) status call does e =
    file_not_words query_file_kind query Explains status call (λ q mid a f. subst (λ s. WritesFlat q s call.sinks) f a.0) does e
job_not_words (SelfRun text settings) status call does e =
    text_not_words text (RunsMade settings.seed settings.games) status call (λ q a f. made_not_words (generated_archive settings.seed settings.games) q status call.sinks a.0 f) does e
job_not_words (Many queries archive settings) status call does e =
    file_not_words queries_file_kind queries (λ asks. AnswersFile archive settings.limit (texts_of_all asks)) status call
    (λ qs mid a f. archive_not_words archive settings.limit (texts_of_all qs) status (from_desk mid call) a f) does e

-- a faulty query has its line
refusal_is_one : (text : List ℕ) (status : Status) (sinks : Sinks) → RefusesQuery text status sinks → IsOneOf status (QueryRefused ∷ WriteFault ∷ NoMemory ∷ [])
refusal_is_one text QueryRefused sinks does = inl refl
refusal_is_one text WriteFault sinks does = inr (inl refl)
refusal_is_one text NoMemory sinks does = inr (inr (inl refl))
refusal_is_one text Done sinks does = absurd does
refusal_is_one text DoneWithRefusals sinks does = absurd does
refusal_is_one text WordsRefused sinks does = absurd does
refusal_is_one text OpenFault sinks does = absurd does
refusal_is_one text ReadFault sinks does = absurd does
refusal_is_one text ArchiveTooLong sinks does = absurd does

-- The bytes taken of a file: all of it, or one byte more than the limit.

text_by_length : (limit : ℕ) (text rest : List ℕ) → length text ≤ limit + 1 → (length text ≤ limit → rest ≡ [])
    → (limit < length text) ⊎ (length text ≤ limit) → take (limit + 1) (text ++ rest) ≡ text
text_by_length limit text rest most whole (inl long) =
    let same : limit + 1 ≡ length text = omega (arith, most, long) in
    ap (λ n. take n (text ++ rest)) same ∙ take-append_seam text rest
text_by_length limit text rest most whole (inr few) =
    ap (λ l. take (limit + 1) (text ++ l)) (whole few) ∙ ap (take (limit + 1)) (append-nil text) ∙ take_all (limit + 1) text most

taken_text : (limit : ℕ) (file text : List ℕ) (after : Option (List ℕ)) → Consumes (Some file) after text → length text ≤ limit + 1
    → (length text ≤ limit → IsAtEnd after) → text ≡ take (limit + 1) file
taken_text limit file text None takes most whole = absurd takes
taken_text limit file text (Some rest) takes most whole =
    sym (ap (take (limit + 1)) takes ∙ text_by_length limit text rest most whole (cases_lt limit (length text)))

-- the bytes taken of such a file, by the telling of the desk
read_text : (call : Call) (most : ℕ) (name text found : List ℕ) (mid : DeskView) → (asks : IsInFile call most name text) → TakesQuery most name call.desk mid found → found ≡ text
read_text call most name text found mid asks takes =
    taken_text most (bytes_of asks.told.files name) found mid.file.left
    (subst (λ l. Consumes l mid.file.left found) (takes.opened.bytes asks.told asks.tells) takes.takes) takes.few takes.whole ∙ sym asks.taken

-- a text that is not accepted
abbrev Never : {Q F : Type 0} → FileKind Q F → List ℕ → Type 0
Never {Q} reading text = (found : Q) → reading.Is text found → ⊥

text_refused_always : (text : List ℕ) (Accepted : QueryTree → Status → Call → Type 0) (status : Status) (call : Call)
    → Never query_file_kind text → OverText text Accepted status call → IsOneOf status (QueryRefused ∷ WriteFault ∷ NoMemory ∷ [])
text_refused_always text Accepted status call never (text_accepted query is does) = absurd (never query is)
text_refused_always text Accepted status call never (text_refused found is does same) = refusal_is_one (query_line found) status call.sinks does
text_refused_always text Accepted status call never (text_out_of_memory is same) = inr (inr (inl is))

file_refused_always : {Q F : Type 0} (reading : FileKind Q F) (name text : List ℕ) (Accepted : Q → Status → Call → Type 0) (status : Status) (call : Call)
    → (asks : IsInFile call reading.most name text) → Never reading text → OverFile reading name Accepted status call
    → IsOneOf status (QueryRefused ∷ WriteFault ∷ NoMemory ∷ [])
file_refused_always reading name text Accepted status call asks never (file_accepted taken found mid takes is does) =
    absurd (never found (subst (λ t. reading.Is t found) (read_text call reading.most name text taken mid asks takes) is))
file_refused_always reading name text Accepted status call asks never (file_refused taken fault takes is does) = refusal_is_one (reading.line fault) status call.sinks does
file_refused_always reading name text Accepted status call asks never (file_unopened is fails same) = absurd (asks.opens fails.rose)
file_refused_always reading name text Accepted status call asks never (file_unread is fails same) =
    absurd (asks.reads (subst (λ n. Rose n call.desk_after.file.faults) fails.opened.faults fails.rose))
file_refused_always reading name text Accepted status call asks never (file_out_of_memory is lacks same) = inr (inr (inl is))

job_refused_always : (job : Job) (text : List ℕ) (status : Status) (call : Call) → HasText call job text → Never query_file_kind text
    → DoesJob job status call → IsOneOf status (QueryRefused ∷ WriteFault ∷ NoMemory ∷ [])
job_refused_always (Run query archive settings) text status call has never does =
    file_refused_always query_file_kind query text (λ asks. AnswersFile archive settings.limit (expected_output settings.first asks)) status call has never does
job_refused_always (Eval word archive settings) text status call has never does =
    text_refused_always text (λ asks. AnswersFile archive settings.limit (expected_output settings.first asks)) status call never
    (subst (λ t. OverText t (λ asks. AnswersFile archive settings.limit (expected_output settings.first asks)) status call) has does)
job_refused_always (Check query) text status call has never does = file_refused_always query_file_kind query text SaysAccepted status call has never does
job_refused_always (Explain query) text status call has never does = file_refused_always query_file_kind query text Explains status call has never does
job_refused_always (SelfRun word settings) text status call has never does =
    text_refused_always text (RunsMade settings.seed settings.games) status call never (subst (λ t. OverText t (RunsMade settings.seed settings.games) status call) has does)
job_refused_always (Many queries archive settings) text status call has never does = absurd has

queries_refused_always : (job : Job) (text : List ℕ) (status : Status) (call : Call) → HasQueriesText call job text → Never queries_file_kind text
    → DoesJob job status call → IsOneOf status (QueryRefused ∷ WriteFault ∷ NoMemory ∷ [])
queries_refused_always (Many queries archive settings) text status call has never does =
    file_refused_always queries_file_kind queries text (λ asks. AnswersFile archive settings.limit (texts_of_all asks)) status call has never does
queries_refused_always (Run query archive settings) text status call has never does = absurd has
queries_refused_always (Eval word archive settings) text status call has never does = absurd has
queries_refused_always (Check query) text status call has never does = absurd has
queries_refused_always (Explain query) text status call has never does = absurd has
queries_refused_always (SelfRun word settings) text status call has never does = absurd has

-- an archive is searched for an accepted query

archive_complete : (archive : List ℕ) (limit : ℕ) (asks : OutputSpec) (status : Status) (call : Call) → (short : IsShort call archive limit asks) → (none : NothingRose call)
    → AnswersFile archive limit asks status call → IsOneOf status (Done ∷ DoneWithRefusals ∷ NoMemory ∷ [])
archive_complete archive limit asks status call short none (archive_answered file opened answers) =
    answers.complete (record {
      archive = bytes_of short.told.files archive;
      tells = opened.bytes short.told short.tells;
      within = short.within;
      no_read = λ rose. none.reads (subst (λ n. Rose n call.desk_after.file.faults) opened.faults rose);
      no_write = none.writes;
    })
archive_complete archive limit asks status call short none (archive_unopened is fails same) = absurd (none.opens fails.rose)
archive_complete archive limit asks status call short none (archive_out_of_memory is same) = inr (inr (inl is))

-- a text that is accepted as this, as nothing else, and has no fault
record Only {Q F : Type 0} (reading : FileKind Q F) (text : List ℕ) (found : Q) : Type 0 where
  one : (other : Q) → reading.Is text other → other ≡ found
  none : (fault : F) → reading.Has text fault → ⊥

-- the good statuses, of which one is out of memory
record Good : Type 0 where
  statuses : List Status
  memory : IsOneOf NoMemory statuses

abbrev counted_or_refused : Good
counted_or_refused = record { statuses = Done ∷ DoneWithRefusals ∷ NoMemory ∷ []; memory = inr (inr (inl refl)) }

abbrev done_alone : Good
done_alone = record { statuses = Done ∷ NoMemory ∷ []; memory = inr (inl refl) }

text_complete : (text : List ℕ) (query : QueryTree) (Accepted : QueryTree → Status → Call → Type 0) (good : Good) (status : Status) (call : Call)
    → Only query_file_kind text query → (Accepted query status call → IsOneOf status good.statuses) → OverText text Accepted status call → IsOneOf status good.statuses
text_complete text query Accepted good status call only answers (text_accepted q is does) = answers (subst (λ q. Accepted q status call) (only.one q is) does)
text_complete text query Accepted good status call only answers (text_refused fault faulty does same) = absurd (only.none fault faulty)
text_complete text query Accepted good status call only answers (text_out_of_memory is same) = subst (λ s. IsOneOf s good.statuses) (sym is) good.memory

-- the bytes taken of a file are accepted as this, and as nothing else
record IsFoundIn {Q F : Type 0} (reading : FileKind Q F) (name : List ℕ) (found : Q) (call : Call) : Type 0 where
  text : List ℕ
  asks : IsInFile call reading.most name text
  only : Only reading text found

file_complete : {Q F : Type 0} (reading : FileKind Q F) (name : List ℕ) (found : Q) (Accepted : Q → Status → Call → Type 0) (good : Good) (status : Status) (call : Call)
    → IsFoundIn reading name found call
    → ((mid : DeskView) (taken : List ℕ) → TakesQuery reading.most name call.desk mid taken → Accepted found status (from_desk mid call) → IsOneOf status good.statuses)
    → OverFile reading name Accepted status call → IsOneOf status good.statuses
file_complete reading name found Accepted good status call file answers (file_accepted taken other mid takes is does) =
    let same = read_text call reading.most name file.text taken mid file.asks takes in
    answers mid taken takes (subst (λ q. Accepted q status (from_desk mid call)) (file.only.one other (subst (λ t. reading.Is t other) same is)) does)
file_complete reading name found Accepted good status call file answers (file_refused taken fault takes faulty does) =
    let same = read_text call reading.most name file.text taken call.desk_after file.asks takes in
    absurd (file.only.none fault (subst (λ t. reading.Has t fault) same faulty))
file_complete reading name found Accepted good status call file answers (file_unopened is fails same) = absurd (file.asks.opens fails.rose)
file_complete reading name found Accepted good status call file answers (file_unread is fails same) =
    absurd (file.asks.reads (subst (λ n. Rose n call.desk_after.file.faults) fails.opened.faults fails.rose))
file_complete reading name found Accepted good status call file answers (file_out_of_memory is lacks same) =
    subst (λ s. IsOneOf s good.statuses) (sym is) good.memory

-- the same for the archive, from a desk in between on

short_later : (most : ℕ) (name archive : List ℕ) (limit : ℕ) (asks : OutputSpec) (mid : DeskView) (text : List ℕ) (call : Call) → TakesQuery most name call.desk mid text
    → IsShort call archive limit asks → IsShort (from_desk mid call) archive limit asks
short_later most name archive limit asks mid text call takes short = record {
  told = with_open name short.told;
  tells = takes.opened.told ∙ ap (option_map (with_open name)) short.tells;
  within = short.within;
}

none_later : (most : ℕ) (name : List ℕ) (mid : DeskView) (text : List ℕ) (call : Call) → TakesQuery most name call.desk mid text → NothingRose call → NothingRose (from_desk mid call)
none_later most name mid text call takes none =
    let same = takes_counts most name call.desk mid text takes in
    record {
      opens = λ rose. none.opens (subst (λ n. Rose n call.desk_after.open_faults) same.opens rose);
      reads = λ rose. none.reads (subst (λ n. Rose n call.desk_after.file.faults) same.reads rose);
      writes = none.writes;
    }

-- The bytes taken of a file are accepted as this, and as nothing else, the archive is short enough for it, and no count rose.
record IsAnswerable {Q F : Type 0} (reading : FileKind Q F) (name : List ℕ) (found : Q) (archive : List ℕ) (limit : ℕ) (asked_of : OutputSpec) (call : Call) : Type 0 where
  file : IsFoundIn reading name found call
  short : IsShort call archive limit asked_of
  none : NothingRose call

-- an archive is searched for the queries of a file
over_archive : {Q F : Type 0} (reading : FileKind Q F) (name : List ℕ) (found : Q) (archive : List ℕ) (limit : ℕ) (asks : Q → OutputSpec) (status : Status) (call : Call)
    → IsAnswerable reading name found archive limit (asks found) call
    → OverFile reading name (λ q. AnswersFile archive limit (asks q)) status call → IsOneOf status (Done ∷ DoneWithRefusals ∷ NoMemory ∷ [])
over_archive reading name found archive limit asks status call can does =
    file_complete reading name found (λ q. AnswersFile archive limit (asks q)) counted_or_refused status call can.file
    (λ mid taken takes a.
    archive_complete archive limit (asks found) status (from_desk mid call)
    (short_later reading.most name archive limit (asks found) mid taken call takes can.short) (none_later reading.most name mid taken call takes can.none) a)
    does

acceptance_is_one : (status : Status) (call : Call) → NothingRose call → AcceptsQuery status call.sinks → IsOneOf status (Done ∷ NoMemory ∷ [])
acceptance_is_one Done call none does = inl refl
acceptance_is_one WriteFault call none does = absurd (none.writes (inl does.1.0))
acceptance_is_one NoMemory call none does = absurd does
acceptance_is_one QueryRefused call none does = absurd does
acceptance_is_one DoneWithRefusals call none does = absurd does
acceptance_is_one WordsRefused call none does = absurd does
acceptance_is_one OpenFault call none does = absurd does
acceptance_is_one ReadFault call none does = absurd does
acceptance_is_one ArchiveTooLong call none does = absurd does

explanation_is_one : (q : QueryTree) (status : Status) (call : Call) → NothingRose call → WritesFlat q status call.sinks → IsOneOf status (Done ∷ NoMemory ∷ [])
explanation_is_one q Done call none does = inl refl
explanation_is_one q WriteFault call none does = absurd (none.writes (inl does.1.0))
explanation_is_one q NoMemory call none does = inr (inl refl)
explanation_is_one q QueryRefused call none does = absurd does
explanation_is_one q DoneWithRefusals call none does = absurd does
explanation_is_one q WordsRefused call none does = absurd does
explanation_is_one q OpenFault call none does = absurd does
explanation_is_one q ReadFault call none does = absurd does
explanation_is_one q ArchiveTooLong call none does = absurd does

totals_is_one : (totals : Totals) (status : Status) (call : Call) → NothingRose call → WritesTotals totals status call.sinks
    → IsOneOf status (Done ∷ DoneWithRefusals ∷ NoMemory ∷ [])
totals_is_one totals Done call none does = inl refl
totals_is_one totals DoneWithRefusals call none does = inr (inl refl)
totals_is_one totals NoMemory call none does = inr (inr (inl refl))
totals_is_one totals WriteFault call none does = absurd (none.writes (inl does.1.0))
totals_is_one totals QueryRefused call none does = absurd does
totals_is_one totals WordsRefused call none does = absurd does
totals_is_one totals OpenFault call none does = absurd does
totals_is_one totals ReadFault call none does = absurd does
totals_is_one totals ArchiveTooLong call none does = absurd does

made_is_one : (archive : List ℕ) (q : QueryTree) (status : Status) (call : Call) → NothingRose call → WritesGenerated archive q status call.sinks
    → IsOneOf status (Done ∷ DoneWithRefusals ∷ NoMemory ∷ [])
made_is_one archive q status call none (totals_written totals are does) = totals_is_one totals status call none does
made_is_one archive q status call none (generated_out_of_memory is same) = inr (inr (inl is))

job_complete : (job : Job) (text : List ℕ) (query : QueryTree) (status : Status) (call : Call) → HasText call job text → Only query_file_kind text query
    → IsWithin call job query → NothingRose call → DoesJob job status call → IsOneOf status (good_answers job)
job_complete (Run name archive settings) text query status call has only short none does =
    over_archive query_file_kind name query archive settings.limit (expected_output settings.first) status call (record { file = record { text = text; asks = has; only = only }; short = short; none = none }) does
job_complete (Eval word archive settings) text query status call has only short none does =
    text_complete text query (λ asks. AnswersFile archive settings.limit (expected_output settings.first asks)) counted_or_refused status call only
    (λ a. archive_complete archive settings.limit (expected_output settings.first query) status call short none a)
    (subst (λ t. OverText t (λ asks. AnswersFile archive settings.limit (expected_output settings.first asks)) status call) has does)
job_complete (Check name) text query status call has only short none does =
    file_complete query_file_kind name query SaysAccepted done_alone status call (record { text = text; asks = has; only = only }) (λ mid taken takes a. acceptance_is_one status call none a.0) does
job_complete (Explain name) text query status call has only short none does =
    file_complete query_file_kind name query Explains done_alone status call (record { text = text; asks = has; only = only }) (λ mid taken takes a. explanation_is_one query status call none a.0) does
job_complete (SelfRun word settings) text query status call has only short none does =
    text_complete text query (RunsMade settings.seed settings.games) counted_or_refused status call only
    (λ a. made_is_one (generated_archive settings.seed settings.games) query status call none a.0) (subst (λ t. OverText t (RunsMade settings.seed settings.games) status call) has does)
job_complete (Many name archive settings) text query status call has only short none does = absurd has

all_complete : (job : Job) (text : List ℕ) (queries : List QueryTree) (status : Status) (call : Call) → HasQueriesText call job text → Only queries_file_kind text queries
    → IsWithinForAll call job queries → NothingRose call → DoesJob job status call → IsOneOf status (good_answers job)
all_complete (Many name archive settings) text queries status call has only short none does =
    over_archive queries_file_kind name queries archive settings.limit texts_of_all status call (record { file = record { text = text; asks = has; only = only }; short = short; none = none }) does
all_complete (Run name archive settings) text queries status call has only short none does = absurd has
all_complete (Eval word archive settings) text queries status call has only short none does = absurd has
all_complete (Check name) text queries status call has only short none does = absurd has
all_complete (Explain name) text queries status call has only short none does = absurd has
all_complete (SelfRun word settings) text queries status call has only short none does = absurd has

-- a job that was done

pub job_is : (job other : Job) (status : Status) (call : Call) → job ≡ other → DoesJob other status call → DoesJob job status call
job_is job other status call is does = subst (λ j. DoesJob j status call) (sym is) does

-- the same of the settings that are its own
pub with_settings : (job : Settings → Job) (given own : Settings) (status : Status) (call : Call) → given ≡ own → DoesJob (job given) status call
    → DoesJob (job own) status call
with_settings job given own status call is does = subst (λ s. DoesJob (job s) status call) is does

-- the same of the words that are its own
pub of_file : {Q F : Type 0} (reading : FileKind Q F) (name query : List ℕ) (Accepted : Q → Status → Call → Type 0) (status : Status) (call : Call) → name ≡ query
    → OverFile reading name Accepted status call → OverFile reading query Accepted status call
of_file reading name query Accepted status call names does = subst (λ n. OverFile reading n Accepted status call) names does

pub of_text : (text word : List ℕ) (Accepted : QueryTree → Status → Call → Type 0) (status : Status) (call : Call) → text ≡ word
    → OverText text Accepted status call → OverText word Accepted status call
of_text text word Accepted status call texts does = subst (λ t. OverText t Accepted status call) texts does

pub file_over : {Q F : Type 0} (reading : FileKind Q F) (name file archive : List ℕ) (limit : ℕ) (asks : Q → OutputSpec) (status : Status) (call : Call) → file ≡ archive
    → OverFile reading name (λ q. AnswersFile file limit (asks q)) status call → OverFile reading name (λ q. AnswersFile archive limit (asks q)) status call
file_over reading name file archive limit asks status call files does =
    subst (λ f. OverFile reading name (λ q. AnswersFile f limit (asks q)) status call) files does

pub text_over : (text file archive : List ℕ) (limit : ℕ) (asks : QueryTree → OutputSpec) (status : Status) (call : Call) → file ≡ archive
    → OverText text (λ q. AnswersFile file limit (asks q)) status call → OverText text (λ q. AnswersFile archive limit (asks q)) status call
text_over text file archive limit asks status call files does = subst (λ f. OverText text (λ q. AnswersFile f limit (asks q)) status call) files does

-- the words

asks_answered : (words : List (List ℕ)) (result : Result Job (Refusal RefusedWords)) → Answers (job_of_words words) result → (takes line words ≡ true → Answers (job_in (matches_of line words)) result)
    → (job : Option Job) → Asks words job → Answers job result
asks_answered words result value taken job (inl promised) = subst (λ j. Answers j result) promised.1 (taken promised.0)
asks_answered words result value taken job (inr is) = subst (λ j. Answers j result) is value

same_job : (a b : Job) → ◌≡◌ {A = Option Job} (Some a) (Some b) → b ≡ a
same_job a b e = cc

-- the job that was done is the one that the words name
asked_done : (words : List (List ℕ)) (status : Status) (call : Call) (job other : Job) → Answers (job_of_words words) (Ok job)
    → (takes line words ≡ true → Answers (job_in (matches_of line words)) (Ok job)) → DoesJob job status call → Asks words (Some other) → DoesJob other status call
asked_done words status call job other value taken does asks =
    subst (λ j. DoesJob j status call) (same_job other job (asks_answered words (Ok job) value taken (Some other) asks)) does

-- a text is accepted or has a fault, and not both
abbrev pub IsDecided : {Q F : Type 0} → FileKind Q F → List ℕ → Type 0
IsDecided {Q} {F} reading text =
    (((found : Q) × reading.Is text found) × ((fault : F) → reading.Has text fault → ⊥))
    ⊎ (((fault : F) × reading.Has text fault) × ((found : Q) → reading.Is text found → ⊥))

-- the laws of a kind of file: each text is decided, and is accepted as one thing at most
pub record HasOneOutcome {Q F : Type 0} (reading : FileKind Q F) : Type 0 where
  pub one : (text : List ℕ) (found other : Q) → reading.Is text found → reading.Is text other → found ≡ other
  pub decided : (text : List ℕ) → IsDecided reading text

not_of_both : {Q F : Type 0} (reading : FileKind Q F) (text : List ℕ) (found : Q) (fault : F) → IsDecided reading text → reading.Is text found
    → reading.Has text fault → ⊥
not_of_both reading text found fault (inl accepted) is has = accepted.1 fault has
not_of_both reading text found fault (inr refused) is has = refused.1 found is

not_both : {Q F : Type 0} (reading : FileKind Q F) → HasOneOutcome reading → (text : List ℕ) (found : Q) (fault : F) → reading.Is text found
    → reading.Has text fault → ⊥
not_both reading laws text found fault is has = not_of_both reading text found fault (laws.decided text) is has

only_one : {Q F : Type 0} (reading : FileKind Q F) → HasOneOutcome reading → (text : List ℕ) (found : Q) → reading.Is text found → Only reading text found
only_one reading laws text found is = record {
  one = λ other also. laws.one text other found also is;
  none = λ fault has. not_both reading laws text found fault is has;
}

pub job_promised : HasOneOutcome query_file_kind → HasOneOutcome queries_file_kind → (words : List (List ℕ)) (status : Status) (call : Call) (job : Job) → Answers (job_of_words words) (Ok job)
    → (takes line words ≡ true → Answers (job_in (matches_of line words)) (Ok job)) → DoesJob job status call → Promise words status call
job_promised query_laws file_laws words status call job value taken does = record {
  does = job_done job value does;
  faults = job_faults job status call does;
  words_never_refused = λ other asks e. job_not_words job status call does e;
  words_always_refused = λ asks. absurd (let e = asks_answered words (Ok job) value taken None asks in cc);
  query_always_refused = λ other text fault asks has faulty.
      job_refused_always other text status call has (λ query is. not_both query_file_kind query_laws text query fault is faulty)
      (asked_done words status call job other value taken does asks);
  complete = λ other text query asks has is short none.
      job_complete other text query status call has (only_one query_file_kind query_laws text query is) short none
      (asked_done words status call job other value taken does asks);
  queries_always_refused = λ other text fault asks has faulty.
      queries_refused_always other text status call has (λ queries are. not_both queries_file_kind file_laws text queries fault are faulty)
      (asked_done words status call job other value taken does asks);
  queries_complete = λ other text queries asks has are short none.
      all_complete other text queries status call has (only_one queries_file_kind file_laws text queries are) short none
      (asked_done words status call job other value taken does asks);
}

usage_is_one : (status : Status) (sinks : Sinks) → WritesUsage status sinks → IsOneOf status (WordsRefused ∷ WriteFault ∷ NoMemory ∷ [])
usage_is_one WordsRefused sinks does = inl refl
usage_is_one WriteFault sinks does = inr (inl refl)
usage_is_one Done sinks does = absurd does
usage_is_one DoneWithRefusals sinks does = absurd does
usage_is_one QueryRefused sinks does = absurd does
usage_is_one OpenFault sinks does = absurd does
usage_is_one ReadFault sinks does = absurd does
usage_is_one NoMemory sinks does = absurd does
usage_is_one ArchiveTooLong sinks does = absurd does

not_asked : (words : List (List ℕ)) (refused : RefusedWords) (job : Job) → Answers (job_of_words words) (Err (Fault refused))
    → (takes line words ≡ true → Answers (job_in (matches_of line words)) (Err (Fault refused))) → Asks words (Some job) → ⊥
not_asked words refused job value taken asks = let e = asks_answered words (Err (Fault refused)) value taken (Some job) asks in cc

pub refusal_promised : (words : List (List ℕ)) (status : Status) (desk : DeskView) (sinks : Sinks) (refused : RefusedWords) → Answers (job_of_words words) (Err (Fault refused))
    → (takes line words ≡ true → Answers (job_in (matches_of line words)) (Err (Fault refused))) → WritesUsage status sinks → Promise words status (call_of desk desk sinks)
refusal_promised words status desk sinks refused value taken does = record {
  does = words_refused value does refl;
  faults = usage_faults status (call_of desk desk sinks) refl does;
  words_never_refused = λ job asks e. not_asked words refused job value taken asks;
  words_always_refused = λ asks. usage_is_one status sinks does;
  query_always_refused = λ job text fault asks has faulty. absurd (not_asked words refused job value taken asks);
  complete = λ job text query asks has is short none. absurd (not_asked words refused job value taken asks);
  queries_always_refused = λ job text fault asks has faulty. absurd (not_asked words refused job value taken asks);
  queries_complete = λ job text queries asks has are short none. absurd (not_asked words refused job value taken asks);
}

memory_is_good : (job : Job) → IsOneOf NoMemory (good_answers job)
memory_is_good (Run query archive settings) = inr (inr (inl refl))
memory_is_good (Eval text archive settings) = inr (inr (inl refl))
memory_is_good (Check query) = inr (inl refl)
memory_is_good (Explain query) = inr (inl refl)
memory_is_good (SelfRun text settings) = inr (inr (inl refl))
memory_is_good (Many queries archive settings) = inr (inr (inl refl))

pub memory_refusal_promised : (words : List (List ℕ)) (desk : DeskView) (sinks : Sinks) → IsUnwritten sinks → Promise words NoMemory (call_of desk desk sinks)
memory_refusal_promised words desk sinks same =
    let unmoved : IsUnmoved (call_of desk desk sinks) = record { desk = refl; sinks = same } in
    record {
      does = words_out_of_memory refl unmoved;
      faults = unmoved_faults NoMemory (call_of desk desk sinks) unmoved;
      words_never_refused = λ job asks e. cc;
      words_always_refused = λ asks. inr (inr (inl refl));
      query_always_refused = λ job text fault asks has faulty. inr (inr (inl refl));
      complete = λ job text query asks has is short none. memory_is_good job;
      queries_always_refused = λ job text fault asks has faulty. inr (inr (inl refl));
      queries_complete = λ job text queries asks has are short none. memory_is_good job;
    }

-- the line of a file of which nothing is accepted
pub told_why : {Q F : Type 0} (reading : FileKind Q F) (name : List ℕ) (Accepted : Q → Status → Call → Type 0) (why : FileRefusal F) (status : Status)
    (desk after : DeskView) (sinks : Sinks) → RefusesFile reading name desk after why → TellsWhy reading why status sinks
    → OverFile reading name Accepted status (call_of desk after sinks)
told_why reading name Accepted (Faulty fault) status desk after sinks reads tells = file_refused reads.0 fault reads.1 reads.2 tells
told_why reading name Accepted Unopened status desk after sinks reads tells = file_unopened tells.0 reads tells.1
told_why reading name Accepted Unread status desk after sinks reads tells = file_unread tells.0 reads tells.1
told_why reading name Accepted OutOfMemory status desk after sinks reads tells = file_out_of_memory tells.0 reads tells.1

pub file_answered : {Q F : Type 0} (reading : FileKind Q F) (name : List ℕ) (Accepted : Q → Status → Call → Type 0) (found : Q) (status : Status) (mid : DeskView) (call : Call)
    → ((text : List ℕ) × TakesQuery reading.most name call.desk mid text × reading.Is text found) → Accepted found status (from_desk mid call)
    → OverFile reading name Accepted status call
file_answered reading name Accepted found status mid call (text, takes, is) does = file_accepted text found mid takes is does
