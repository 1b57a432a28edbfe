-- The promise of `run`: the job that it does for its words, the texts that out and err have taken, and the cause of each status.
use Rattle.std.specs.Prelude.{◌≡◌, ◌⊎◌, ℕ, ◌+◌, ◌≤◌, ◌<◌, true, List, [], ◌∷◌, length, take, Option, None, Some, codes}
use Rattle.clap.specs.Takes.{takes}
use Rattle.clap.specs.Simple.{matches_of}
use Rattle.cq_outside.specs.Faults.{Rose}
use Rattle.cq_outside.specs.DeskFiles.{DeskFiles, bytes_of}
use Rattle.cql_syntax.specs.Limits.{most_bytes}
use Rattle.cq_words.specs.Jobs.{job_of_words, job_in}
use Rattle.cq_words.specs.Line.{line}
use Rattle.cq_words.specs.declared.job.Job.{Job}
use Rattle.cq_words.specs.declared.job.Job.TheVariants.{Run, Eval, Check, Explain, SelfRun, Many}
use Rattle.cq_maker.specs.GeneratedArchive.{generated_archive}
use Rattle.cql_syntax.specs.Trees.{QueryTree}
use Rattle.cql_syntax.specs.declared.fault.QueryFault.{QueryFault}
use Rattle.cq_report.specs.Queries.{query_line}
use Rattle.cq_query_files.specs.declared.status.Status.{Status}
use Rattle.cq_query_files.specs.declared.status.Status.TheVariants.{Done, DoneWithRefusals, QueryRefused, WordsRefused}
use Rattle.cq_query_files.specs.declared.status.Status.TheVariants.{OpenFault, ReadFault, WriteFault, NoMemory}
use Rattle.cq_query_files.specs.declared.query_files.ManyFault.{ManyFault}
use Rattle.cq_query_files.specs.Queries.{IsQuery, IsQueryFault}
use Rattle.cq_query_files.specs.QueryFiles.{HoldsQueries, IsManyFault, most_in_file}
use Rattle.cq_query_files.specs.Files.{Opened, FailsToOpen, TakesQuery, FailsToRead, LacksMemory, FileKind, query_file_kind, queries_file_kind}
use Rattle.cq_query_files.specs.Lines.{text_for_err, RefusesQuery, AcceptsQuery, WritesFlat}
use Rattle.cq_search.specs.ManyQueries.{texts_of_all}
use Rattle.cq_search.specs.SelfRun.{WritesGenerated}
use Rattle.cq_search.specs.FirstGame.{expected_output}
use Rattle.cq_query_files.specs.Views.{SourceView, DeskView, Sinks, Writes, WritesPrefix, IsUnwritten, NoWriteFailed}
use Rattle.cq_query_files.specs.Views.{ErrFailed, SinkFailed}
use Rattle.cq_search.specs.Promise.{IsOneOf, AnswerPromise, Suffices, OutputSpec}

-- the desk and the sinks of a call of `run`, as it began and as it ended
pub record Call : Type 0 where
  pub desk : DeskView
  pub desk_after : DeskView
  pub sinks : Sinks

abbrev pub call_of : DeskView → DeskView → Sinks → Call
call_of desk after sinks = record { desk = desk; desk_after = after; sinks = sinks }

-- the rest of a call, from a desk in between on
abbrev pub from_desk : DeskView → Call → Call
from_desk mid call = record { desk = mid; desk_after = call.desk_after; sinks = call.sinks }

-- nothing changed
pub record IsUnmoved (call : Call) : Type 0 where
  pub desk : call.desk_after ≡ call.desk
  pub sinks : IsUnwritten call.sinks

-- ---- words that are no command

-- the line for words that are no command
abbrev pub usage_line : List ℕ
usage_line = codes "usage: cqlpgn MODE QUERY [ARCHIVE] [--workers N] [--seed S] [--games G] [--limit B] [--first]\n"

-- words that are no command: the usage line is written
abbrev pub WritesUsage : Status → Sinks → Type 0
WritesUsage WordsRefused sinks = Writes sinks (text_for_err usage_line) × NoWriteFailed sinks
WritesUsage WriteFault sinks = WritesPrefix sinks (text_for_err usage_line) × ErrFailed sinks
WritesUsage _ sinks = ⊥

-- ---- jobs

-- The search of the archive in a file for an accepted query, or for several. So many bytes of it are the limit, and the texts are those of
-- the expected output.
pub data AnswersFile (archive : List ℕ) (limit : ℕ) (asks : OutputSpec) (status : Status) (call : Call) : Type 0 where
  archive_answered : (file : SourceView) → Opened archive call.desk call.desk_after file
      → AnswerPromise asks status (record { limit = limit; source = file; source_after = call.desk_after.file; sinks = call.sinks })
      → AnswersFile archive limit asks status call
  archive_unopened : status ≡ OpenFault → FailsToOpen call.desk call.desk_after → IsUnwritten call.sinks
      → AnswersFile archive limit asks status call
  archive_out_of_memory : status ≡ NoMemory → IsUnmoved call → AnswersFile archive limit asks status call

-- A query that a word spells: its fault has a line, or it is accepted, and then this is done.
pub data OverText (text : List ℕ) (Accepted : QueryTree → Status → Call → Type 0) (status : Status) (call : Call) : Type 0 where
  text_accepted : (query : QueryTree) → IsQuery text query → Accepted query status call → OverText text Accepted status call
  text_refused : (fault : QueryFault) → IsQueryFault text fault → RefusesQuery (query_line fault) status call.sinks
      → call.desk_after ≡ call.desk → OverText text Accepted status call
  text_out_of_memory : status ≡ NoMemory → IsUnmoved call → OverText text Accepted status call

-- The same of a file with one query or several, which is opened and read first.
pub data OverFile {Q F : Type 0} (reading : FileKind Q F) (name : List ℕ) (Accepted : Q → Status → Call → Type 0) (status : Status)
    (call : Call) : Type 0 where
  file_accepted : (text : List ℕ) (found : Q) (mid : DeskView) → TakesQuery reading.most name call.desk mid text
      → reading.Is text found → Accepted found status (from_desk mid call) → OverFile reading name Accepted status call
  file_refused : (text : List ℕ) (fault : F) → TakesQuery reading.most name call.desk call.desk_after text → reading.Has text fault
      → RefusesQuery (reading.line fault) status call.sinks → OverFile reading name Accepted status call
  file_unopened : status ≡ OpenFault → FailsToOpen call.desk call.desk_after → IsUnwritten call.sinks
      → OverFile reading name Accepted status call
  file_unread : status ≡ ReadFault → FailsToRead reading.most name call.desk call.desk_after → IsUnwritten call.sinks
      → OverFile reading name Accepted status call
  file_out_of_memory : status ≡ NoMemory → LacksMemory reading.most name call.desk call.desk_after → IsUnwritten call.sinks
      → OverFile reading name Accepted status call

-- an accepted query has the line `ok`, and no other file is opened
abbrev pub SaysAccepted : QueryTree → Status → Call → Type 0
SaysAccepted query status call = AcceptsQuery status call.sinks × (call.desk_after ≡ call.desk)

-- the flat form of an accepted query is written, and no other file is opened
abbrev pub Explains : QueryTree → Status → Call → Type 0
Explains query status call = WritesFlat query status call.sinks × (call.desk_after ≡ call.desk)

-- the made archive is searched for an accepted query, and no file is opened
abbrev pub RunsMade : ℕ → ℕ → QueryTree → Status → Call → Type 0
RunsMade seed games query status call = WritesGenerated (generated_archive seed games) query status call.sinks × (call.desk_after ≡ call.desk)

-- the work of a job
abbrev pub DoesJob : Job → Status → Call → Type 0
DoesJob (Run query archive settings) = OverFile query_file_kind query (λ asks. AnswersFile archive settings.limit (expected_output settings.first asks))
DoesJob (Eval text archive settings) = OverText text (λ asks. AnswersFile archive settings.limit (expected_output settings.first asks))
DoesJob (Check query) = OverFile query_file_kind query SaysAccepted
DoesJob (Explain query) = OverFile query_file_kind query Explains
DoesJob (SelfRun text settings) = OverText text (RunsMade settings.seed settings.games)
DoesJob (Many queries archive settings) = OverFile queries_file_kind queries (λ asks. AnswersFile archive settings.limit (texts_of_all asks))

-- The work for words: the job that they name, or the usage line. For the usage line no file is opened.
pub data AnswersWords (words : List (List ℕ)) (status : Status) (call : Call) : Type 0 where
  job_done : (job : Job) → job_of_words words ≡ Some job → DoesJob job status call → AnswersWords words status call
  words_refused : job_of_words words ≡ None → WritesUsage status call.sinks → call.desk_after ≡ call.desk → AnswersWords words status call
  words_out_of_memory : status ≡ NoMemory → IsUnmoved call → AnswersWords words status call

-- ---- when a status always comes

-- The words name this job, or none: by the matches that `clap` promises if it promises to take them, or by the faults that it finds in
-- them.
abbrev pub Asks : List (List ℕ) → Option Job → Type 0
Asks words job = ((takes line words ≡ true) × (job_in (matches_of line words) ≡ job)) ⊎ (job_of_words words ≡ job)

-- a count that is greater than it was has the status of its own fault
pub record AnswersItsFault (status : Status) (call : Call) : Type 0 where
  pub open_faults : call.desk.open_faults < call.desk_after.open_faults → status ≡ OpenFault
  pub read_faults : call.desk.file.faults < call.desk_after.file.faults → status ≡ ReadFault
  pub out_faults : call.sinks.out.faults < call.sinks.out_after.faults → status ≡ WriteFault
  pub err_faults : call.sinks.err.faults < call.sinks.err_after.faults → status ≡ WriteFault

-- The desk tells its files, and the file of a query, or of several, was opened and read without a fault. This text was taken of it: all of
-- it, or one byte more than the limit.
pub record IsInFile (call : Call) (most : ℕ) (name text : List ℕ) : Type 0 where
  pub told : DeskFiles
  pub tells : call.desk.told ≡ Some told
  pub taken : text ≡ take (most + 1) (bytes_of told.files name)
  pub opens : Rose call.desk.open_faults call.desk_after.open_faults → ⊥
  pub reads : Rose call.desk.file.faults call.desk_after.file.faults → ⊥

-- the text of a job's one query
abbrev pub HasText : Call → Job → List ℕ → Type 0
HasText call (Run query archive settings) text = IsInFile call most_bytes query text
HasText call (Eval word archive settings) text = word ≡ text
HasText call (Check query) text = IsInFile call most_bytes query text
HasText call (Explain query) text = IsInFile call most_bytes query text
HasText call (SelfRun word settings) text = word ≡ text
HasText call (Many queries archive settings) text = ⊥

-- the text of a job's file of queries
abbrev pub HasQueriesText : Call → Job → List ℕ → Type 0
HasQueriesText call (Many queries archive settings) text = IsInFile call most_in_file queries text
HasQueriesText call job text = ⊥

-- no count rose
pub record NothingRose (call : Call) : Type 0 where
  pub opens : Rose call.desk.open_faults call.desk_after.open_faults → ⊥
  pub reads : Rose call.desk.file.faults call.desk_after.file.faults → ⊥
  pub writes : SinkFailed call.sinks → ⊥

-- the desk tells its files, and this one is within the limit, or so many of its bytes suffice
pub record IsShort (call : Call) (archive : List ℕ) (limit : ℕ) (asked_of : OutputSpec) : Type 0 where
  pub told : DeskFiles
  pub tells : call.desk.told ≡ Some told
  pub within : (length (bytes_of told.files archive) ≤ limit) ⊎ Suffices asked_of (take limit (bytes_of told.files archive))

-- The archive of a job, if it reads one, is within the limit. Up to the first match it is enough that a game matches in the whole batches
-- of that many bytes.
abbrev pub IsWithin : Call → Job → QueryTree → Type 0
IsWithin call (Run name archive settings) query = IsShort call archive settings.limit (expected_output settings.first query)
IsWithin call (Eval text archive settings) query = IsShort call archive settings.limit (expected_output settings.first query)
IsWithin call (Check name) query = Unit {0}
IsWithin call (Explain name) query = Unit {0}
IsWithin call (SelfRun text settings) query = Unit {0}
IsWithin call (Many queries archive settings) query = Unit {0}

-- the same of the archive of a job with a file of queries
abbrev pub IsWithinForAll : Call → Job → List QueryTree → Type 0
IsWithinForAll call (Many name archive settings) queries = IsShort call archive settings.limit (texts_of_all queries)
IsWithinForAll call job queries = Unit {0}

-- the statuses of a job that is accepted, if nothing fails
abbrev pub good_answers : Job → List Status
good_answers (Run query archive settings) = Done ∷ DoneWithRefusals ∷ NoMemory ∷ []
good_answers (Eval text archive settings) = Done ∷ DoneWithRefusals ∷ NoMemory ∷ []
good_answers (Check query) = Done ∷ NoMemory ∷ []
good_answers (Explain query) = Done ∷ NoMemory ∷ []
good_answers (SelfRun text settings) = Done ∷ DoneWithRefusals ∷ NoMemory ∷ []
good_answers (Many queries archive settings) = Done ∷ DoneWithRefusals ∷ NoMemory ∷ []

-- The promise of `run` on its status: the work that was done for the words, the fault of each count that rose, and the statuses that always
-- or never come.
pub record Promise (words : List (List ℕ)) (status : Status) (call : Call) : Type 0 where
  pub does : AnswersWords words status call
  pub faults : AnswersItsFault status call
  pub words_never_refused : (job : Job) → Asks words (Some job) → status ≡ WordsRefused → ⊥
  pub words_always_refused : Asks words None → IsOneOf status (WordsRefused ∷ WriteFault ∷ NoMemory ∷ [])
  pub query_always_refused : (job : Job) (text : List ℕ) (fault : QueryFault) → Asks words (Some job) → HasText call job text
      → IsQueryFault text fault → IsOneOf status (QueryRefused ∷ WriteFault ∷ NoMemory ∷ [])
  pub complete : (job : Job) (text : List ℕ) (query : QueryTree) → Asks words (Some job) → HasText call job text
      → IsQuery text query → IsWithin call job query → NothingRose call → IsOneOf status (good_answers job)
  pub queries_always_refused : (job : Job) (text : List ℕ) (fault : ManyFault) → Asks words (Some job) → HasQueriesText call job text
      → IsManyFault text fault → IsOneOf status (QueryRefused ∷ WriteFault ∷ NoMemory ∷ [])
  pub queries_complete : (job : Job) (text : List ℕ) (queries : List QueryTree) → Asks words (Some job) → HasQueriesText call job text
      → HoldsQueries text queries → IsWithinForAll call job queries → NothingRose call → IsOneOf status (good_answers job)
