-- A count that rose in a call of `run` has the status of its own fault.
use Rattle.std.proofs.Common.{◌≡◌, ℕ, List, refl, ap, sym, ◌∙◌, arith, subst}
use Rattle.cq_maker.specs.GeneratedArchive.{generated_archive}
use Rattle.cq_words.specs.declared.job.Job.{Job}
use Rattle.cq_words.specs.declared.job.Job.TheVariants.{Run, Eval, Check, Explain, SelfRun, Many}
use Rattle.cql_syntax.specs.Trees.{QueryTree}
use Rattle.cq_report.specs.Queries.{query_line}
use Rattle.cq_query_files.specs.declared.status.Status.{Status}
use Rattle.cq_query_files.specs.declared.status.Status.TheVariants.{Done, DoneWithRefusals, QueryRefused, WordsRefused, OpenFault, ReadFault, WriteFault, NoMemory, ArchiveTooLong}
use Rattle.cq_query_files.specs.Views.{SourceView, DeskView, IsUnwritten, NoWriteFailed}
use Rattle.cq_search.specs.Promise.{OutputSpec, StatusPromise}
use Rattle.cq_search.specs.FirstGame.{expected_output}
use Rattle.cq_search.specs.ManyQueries.{texts_of_all}
use Rattle.cq_run.specs.Run.{Call, from_desk, IsUnmoved}
use Rattle.cq_query_files.specs.Files.{Opened, FailsToOpen, TakesQuery, LacksMemory, no_memory_to_open, no_memory_to_read, FileKind, query_file_kind, queries_file_kind}
use Rattle.cq_run.specs.Run.{WritesUsage, AnswersFile, archive_answered, archive_unopened, archive_out_of_memory}
use Rattle.cq_query_files.specs.Lines.{RefusesQuery, AcceptsQuery, WritesFlat}
use Rattle.cq_run.specs.Run.{OverText, text_accepted, text_refused, text_out_of_memory, OverFile, file_accepted, file_refused, file_unopened, file_unread, file_out_of_memory}
use Rattle.cq_run.specs.Run.{SaysAccepted, Explains, RunsMade, DoesJob, AnswersItsFault}
use Rattle.cq_search.specs.SelfRun.{WritesTotals, WritesGenerated, totals_written, generated_out_of_memory}
use Rattle.cq_search.specs.declared.totals.Totals.{Totals}
use Rattle.cq_query_files.proofs.Sinks.{wrote_none}

-- counts that did not rise, and the one that may rise

-- no open and no read failed
pub record NoInputFailed (desk after : DeskView) : Type 0 where
  pub opens : after.open_faults ≡ desk.open_faults
  pub reads : after.file.faults ≡ desk.file.faults

at_none : (status : Status) (call : Call) → NoInputFailed call.desk call.desk_after → NoWriteFailed call.sinks → AnswersItsFault status call
at_none status call input writes =
    let opens = input.opens in
    let reads = input.reads in
    let out = writes.out in
    let err = writes.err in
    record {
      open_faults = λ more. absurd (omega arith);
      read_faults = λ more. absurd (omega arith);
      out_faults = λ more. absurd (omega arith);
      err_faults = λ more. absurd (omega arith);
    }

at_write : (call : Call) → NoInputFailed call.desk call.desk_after → AnswersItsFault WriteFault call
at_write call input =
    let opens = input.opens in
    let reads = input.reads in
    record { open_faults = λ more. absurd (omega arith); read_faults = λ more. absurd (omega arith); out_faults = λ more. refl; err_faults = λ more. refl }

at_read : (call : Call) → call.desk_after.open_faults ≡ call.desk.open_faults → NoWriteFailed call.sinks → AnswersItsFault ReadFault call
at_read call opens writes =
    let out = writes.out in
    let err = writes.err in
    record { open_faults = λ more. absurd (omega arith); read_faults = λ more. refl; out_faults = λ more. absurd (omega arith); err_faults = λ more. absurd (omega arith) }

at_open : (call : Call) → call.desk_after.file.faults ≡ call.desk.file.faults → NoWriteFailed call.sinks → AnswersItsFault OpenFault call
at_open call reads writes =
    let out = writes.out in
    let err = writes.err in
    record { open_faults = λ more. refl; read_faults = λ more. absurd (omega arith); out_faults = λ more. absurd (omega arith); err_faults = λ more. absurd (omega arith) }

-- a desk that is the same has the same counts
same_counts : (desk after : DeskView) → after ≡ desk → NoInputFailed desk after
same_counts desk after e = record { opens = ap (λ (d : DeskView). d.open_faults) e; reads = ap (λ (d : DeskView). d.file.faults) e }

-- a file that was opened, and read without a fault
opened_counts : (name : List ℕ) (desk after : DeskView) (file : SourceView) → Opened name desk after file → after.file.faults ≡ file.faults → NoInputFailed desk after
opened_counts name desk after file opened same = record { opens = opened.opens; reads = same ∙ opened.faults }

refusal_faults : (text : List ℕ) (status : Status) (call : Call) → NoInputFailed call.desk call.desk_after → RefusesQuery text status call.sinks → AnswersItsFault status call
refusal_faults text QueryRefused call input does = at_none QueryRefused call input does.1
refusal_faults text WriteFault call input does = at_write call input
refusal_faults text NoMemory call input does = at_none NoMemory call input (wrote_none call.sinks does)
refusal_faults text Done call input does = absurd does
refusal_faults text DoneWithRefusals call input does = absurd does
refusal_faults text WordsRefused call input does = absurd does
refusal_faults text OpenFault call input does = absurd does
refusal_faults text ReadFault call input does = absurd does
refusal_faults text ArchiveTooLong call input does = absurd does

acceptance_faults : (status : Status) (call : Call) → NoInputFailed call.desk call.desk_after → AcceptsQuery status call.sinks → AnswersItsFault status call
acceptance_faults Done call input does = at_none Done call input does.1
acceptance_faults WriteFault call input does = at_write call input
acceptance_faults QueryRefused call input does = absurd does
acceptance_faults NoMemory call input does = absurd does
acceptance_faults DoneWithRefusals call input does = absurd does
acceptance_faults WordsRefused call input does = absurd does
acceptance_faults OpenFault call input does = absurd does
acceptance_faults ReadFault call input does = absurd does
acceptance_faults ArchiveTooLong call input does = absurd does

explanation_faults : (q : QueryTree) (status : Status) (call : Call) → NoInputFailed call.desk call.desk_after → WritesFlat q status call.sinks → AnswersItsFault status call
explanation_faults q Done call input does = at_none Done call input does.1
explanation_faults q WriteFault call input does = at_write call input
explanation_faults q NoMemory call input does = at_none NoMemory call input (wrote_none call.sinks does)
explanation_faults q QueryRefused call input does = absurd does
explanation_faults q DoneWithRefusals call input does = absurd does
explanation_faults q WordsRefused call input does = absurd does
explanation_faults q OpenFault call input does = absurd does
explanation_faults q ReadFault call input does = absurd does
explanation_faults q ArchiveTooLong call input does = absurd does

totals_faults : (totals : Totals) (status : Status) (call : Call) → NoInputFailed call.desk call.desk_after → WritesTotals totals status call.sinks → AnswersItsFault status call
totals_faults totals Done call input does = at_none Done call input does.2
totals_faults totals DoneWithRefusals call input does = at_none DoneWithRefusals call input does.2
totals_faults totals WriteFault call input does = at_write call input
totals_faults totals NoMemory call input does = at_none NoMemory call input (wrote_none call.sinks does)
totals_faults totals QueryRefused call input does = absurd does
totals_faults totals WordsRefused call input does = absurd does
totals_faults totals OpenFault call input does = absurd does
totals_faults totals ReadFault call input does = absurd does
totals_faults totals ArchiveTooLong call input does = absurd does

made_faults : (archive : List ℕ) (q : QueryTree) (status : Status) (call : Call) → NoInputFailed call.desk call.desk_after → WritesGenerated archive q status call.sinks
    → AnswersItsFault status call
made_faults archive q status call input (totals_written totals are does) = totals_faults totals status call input does
made_faults archive q status call input (generated_out_of_memory is same) = at_none status call input (wrote_none call.sinks same)

answer_faults : (name : List ℕ) (limit : ℕ) (asks : OutputSpec) (file : SourceView) (status : Status) (call : Call) → Opened name call.desk call.desk_after file
    → StatusPromise status asks (record { limit = limit; source = file; source_after = call.desk_after.file; sinks = call.sinks }) → AnswersItsFault status call
answer_faults name limit asks file Done call opened says = at_none Done call (opened_counts name call.desk call.desk_after file opened says.1.source) says.1.sinks
answer_faults name limit asks file DoneWithRefusals call opened says = at_none DoneWithRefusals call (opened_counts name call.desk call.desk_after file opened says.1.source) says.1.sinks
answer_faults name limit asks file ReadFault call opened says = at_read call opened.opens says.1
answer_faults name limit asks file WriteFault call opened says = at_write call (opened_counts name call.desk call.desk_after file opened says.1)
answer_faults name limit asks file NoMemory call opened says = at_none NoMemory call (opened_counts name call.desk call.desk_after file opened says.1.source) says.1.sinks
answer_faults name limit asks file ArchiveTooLong call opened says = at_none ArchiveTooLong call (opened_counts name call.desk call.desk_after file opened says.1.source) says.1.sinks
answer_faults name limit asks file QueryRefused call opened says = absurd says
answer_faults name limit asks file WordsRefused call opened says = absurd says
answer_faults name limit asks file OpenFault call opened says = absurd says

pub unmoved_faults : (status : Status) (call : Call) → IsUnmoved call → AnswersItsFault status call
unmoved_faults status call same = at_none status call (same_counts call.desk call.desk_after same.desk) (wrote_none call.sinks same.sinks)

unopened_faults : (status : Status) (call : Call) → status ≡ OpenFault → FailsToOpen call.desk call.desk_after → IsUnwritten call.sinks → AnswersItsFault status call
unopened_faults status call is fails same =
    subst (λ s. AnswersItsFault s call) (sym is) (at_open call (ap (λ (s : SourceView). s.faults) fails.file) (wrote_none call.sinks same))

archive_faults : (archive : List ℕ) (limit : ℕ) (asks : OutputSpec) (status : Status) (call : Call) → AnswersFile archive limit asks status call → AnswersItsFault status call
archive_faults archive limit asks status call (archive_answered file opened answers) = answer_faults archive limit asks file status call opened answers.says
archive_faults archive limit asks status call (archive_unopened is fails same) = unopened_faults status call is fails same
archive_faults archive limit asks status call (archive_out_of_memory is same) = unmoved_faults status call same

-- counts that did not rise up to a desk in between
later_faults : (mid : DeskView) (status : Status) (call : Call) → NoInputFailed call.desk mid → AnswersItsFault status (from_desk mid call) → AnswersItsFault status call
later_faults mid status call same faults =
    let opens = same.opens in
    let reads = same.reads in
    record {
      open_faults = λ more. faults.open_faults (omega (arith, opens, more));
      read_faults = λ more. faults.read_faults (omega (arith, reads, more));
      out_faults = faults.out_faults;
      err_faults = faults.err_faults;
    }

pub takes_counts : (most : ℕ) (name : List ℕ) (desk after : DeskView) (text : List ℕ) → TakesQuery most name desk after text → NoInputFailed desk after
takes_counts most name desk after text takes = opened_counts name desk after takes.file takes.opened takes.faults

lacking_counts : (most : ℕ) (name : List ℕ) (desk after : DeskView) → LacksMemory most name desk after → NoInputFailed desk after
lacking_counts most name desk after (no_memory_to_open same) = same_counts desk after same
lacking_counts most name desk after (no_memory_to_read file opened few same) = opened_counts name desk after file opened same

text_faults : (text : List ℕ) (Accepted : QueryTree → Status → Call → Type 0) (status : Status) (call : Call)
    → ((q : QueryTree) → Accepted q status call → AnswersItsFault status call) → OverText text Accepted status call → AnswersItsFault status call
text_faults text Accepted status call accepted (text_accepted query is does) = accepted query does
text_faults text Accepted status call accepted (text_refused fault is does same) = refusal_faults (query_line fault) status call (same_counts call.desk call.desk_after same) does
text_faults text Accepted status call accepted (text_out_of_memory is same) = unmoved_faults status call same

file_faults : {Q F : Type 0} (reading : FileKind Q F) (name : List ℕ) (Accepted : Q → Status → Call → Type 0) (status : Status) (call : Call)
    → ((found : Q) (mid : DeskView) → Accepted found status (from_desk mid call) → AnswersItsFault status (from_desk mid call))
    → OverFile reading name Accepted status call → AnswersItsFault status call
file_faults reading name Accepted status call accepted (file_accepted text found mid takes is does) =
    later_faults mid status call (takes_counts reading.most name call.desk mid text takes) (accepted found mid does)
file_faults reading name Accepted status call accepted (file_refused text fault takes is does) =
    refusal_faults (reading.line fault) status call (takes_counts reading.most name call.desk call.desk_after text takes) does
file_faults reading name Accepted status call accepted (file_unopened is fails same) = unopened_faults status call is fails same
file_faults reading name Accepted status call accepted (file_unread is fails same) =
    subst (λ s. AnswersItsFault s call) (sym is) (at_read call fails.opened.opens (wrote_none call.sinks same))
file_faults reading name Accepted status call accepted (file_out_of_memory is lacks same) =
    at_none status call (lacking_counts reading.most name call.desk call.desk_after lacks) (wrote_none call.sinks same)

pub job_faults : (job : Job) (status : Status) (call : Call) → DoesJob job status call → AnswersItsFault status call
job_faults (Run query archive settings) status call does =
    file_faults query_file_kind query (λ asks. AnswersFile archive settings.limit (expected_output settings.first asks)) status call
    (λ q mid a. archive_faults archive settings.limit (expected_output settings.first q) status (from_desk mid call) a) does
job_faults (Eval text archive settings) status call does =
    text_faults text (λ asks. AnswersFile archive settings.limit (expected_output settings.first asks)) status call
    (λ q a. archive_faults archive settings.limit (expected_output settings.first q) status call a) does
job_faults (Check query) status call does =
    file_faults query_file_kind query SaysAccepted status call (λ q mid a. acceptance_faults status (from_desk mid call) (same_counts mid call.desk_after a.1) a.0) does
job_faults (Explain query) status call does =
    file_faults query_file_kind query Explains status call (λ q mid a. explanation_faults q status (from_desk mid call) (same_counts mid call.desk_after a.1) a.0) does
job_faults (SelfRun text settings) status call does =
    text_faults text (RunsMade settings.seed settings.games) status call (λ q a. made_faults (generated_archive settings.seed settings.games) q status call (same_counts call.desk call.desk_after a.1) a.0) does
job_faults (Many queries archive settings) status call does =
    file_faults queries_file_kind queries (λ asks. AnswersFile archive settings.limit (texts_of_all asks)) status call
    (λ qs mid a. archive_faults archive settings.limit (texts_of_all qs) status (from_desk mid call) a) does

pub usage_faults : (status : Status) (call : Call) → call.desk_after ≡ call.desk → WritesUsage status call.sinks → AnswersItsFault status call
usage_faults WordsRefused call same does = at_none WordsRefused call (same_counts call.desk call.desk_after same) does.1
usage_faults WriteFault call same does = at_write call (same_counts call.desk call.desk_after same)
usage_faults Done call same does = absurd does
usage_faults DoneWithRefusals call same does = absurd does
usage_faults QueryRefused call same does = absurd does
usage_faults OpenFault call same does = absurd does
usage_faults ReadFault call same does = absurd does
usage_faults NoMemory call same does = absurd does
usage_faults ArchiveTooLong call same does = absurd does
