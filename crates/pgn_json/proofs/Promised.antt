-- The promise of `run` from the work for the words.
use Rattle.std.proofs.Common.{◌≡◌, ℕ, true, List, [], ◌∷◌, Option, Some, None, Ok, Err, refl, subst, inl, inr}
use Rattle.std.specs.Prelude.{Result}
use Rattle.clap.specs.Takes.{takes}
use Rattle.clap.specs.Simple.{matches_of}
use Rattle.cq_common.specs.declared.faults.Refusal.{Refusal}
use Rattle.cq_common.specs.declared.faults.Refusal.TheVariants.{Fault}
use Rattle.cq_program.proofs.Refusals.{usage_is_one}
use Rattle.cq_program.specs.Call.{Call, call_of}
use Rattle.cq_program.specs.Opening.{Opened, FailsToOpen}
use Rattle.cq_program.specs.Usage.{WritesUsage}
use Rattle.cq_program.specs.Views.{SourceView, DeskView, Sinks, IsUnwritten}
use Rattle.cq_program.specs.declared.status.Status.{Status}
use Rattle.cq_program.specs.declared.status.Status.TheVariants.{QueryRefused, WordsRefused, OpenFault}
use Rattle.pgn_json.specs.Jobs.{Answers, Asks, job_in, job_of_words}
use Rattle.pgn_json.specs.Line.{line}
use Rattle.pgn_json.specs.Promise.{DoesWords, Promise, games_written, archive_unopened, words_refused, comment_of, pipe_at, usage_line}
use Rattle.pgn_json.specs.Writing.{Says}
use Rattle.pgn_json.specs.declared.job.Job.{Job}
use Rattle.pgn_json.specs.declared.job.WordsRefused.{WordsRefused as RefusedWords}

asks_answered : (words : List (List ℕ)) (result : Result Job (Refusal RefusedWords)) → Answers (job_of_words words) result → (takes line words ≡ true → Answers (job_in (matches_of line words)) result)
    → (job : Option Job) → Asks words job → Answers job result
asks_answered words result value taken job (inl promised) = subst (λ j. Answers j result) promised.1 (taken promised.0)
asks_answered words result value taken job (inr is) = subst (λ j. Answers j result) is value

-- the archive was opened and read
pub games_promised : (words : List (List ℕ)) (status : Status) (call : Call) (job : Job) (file : SourceView) (mark : List ℕ) → Answers (job_of_words words) (Ok job)
    → (takes line words ≡ true → Answers (job_in (matches_of line words)) (Ok job)) → mark ≡ comment_of job.mark
    → Opened job.archive call.desk call.desk_after file
    → Says status job.limit mark (pipe_at file call.sinks.out call.sinks.err) (pipe_at call.desk_after.file call.sinks.out_after call.sinks.err_after)
    → Promise words status call
games_promised words status call job file mark value taken is opened says =
    let was = pipe_at file call.sinks.out call.sinks.err in
    let now = pipe_at call.desk_after.file call.sinks.out_after call.sinks.err_after in
    let never : (s : Status) → status ≡ s → Says s job.limit mark was now =
    λ s e. subst (λ (t : Status). Says t job.limit mark was now) e says in
    record {
      does = games_written job value file opened (subst (λ m. Says status job.limit m was now) is says);
      words_never_refused = λ other asks e. never WordsRefused e;
      words_always_refused = λ asks. absurd (let e = asks_answered words (Ok job) value taken None asks in cc);
      no_query_refused = λ e. never QueryRefused e;
    }

-- the archive could not be opened
pub unopened_promised : (words : List (List ℕ)) (desk after : DeskView) (sinks : Sinks) (job : Job) → Answers (job_of_words words) (Ok job)
    → (takes line words ≡ true → Answers (job_in (matches_of line words)) (Ok job)) → FailsToOpen desk after → IsUnwritten sinks
    → Promise words OpenFault (call_of desk after sinks)
unopened_promised words desk after sinks job value taken fails same = record {
  does = archive_unopened job value refl fails same;
  words_never_refused = λ other asks e. cc;
  words_always_refused = λ asks. absurd (let e = asks_answered words (Ok job) value taken None asks in cc);
  no_query_refused = λ e. cc;
}

usage_never : (status s : Status) (sinks : Sinks) → WritesUsage usage_line status sinks → status ≡ s → WritesUsage usage_line s sinks
usage_never status s sinks does e = subst (λ (t : Status). WritesUsage usage_line t sinks) e does

-- the words are no command
pub refusal_promised : (words : List (List ℕ)) (status : Status) (desk : DeskView) (sinks : Sinks) (refused : RefusedWords) → Answers (job_of_words words) (Err (Fault refused))
    → (takes line words ≡ true → Answers (job_in (matches_of line words)) (Err (Fault refused))) → WritesUsage usage_line status sinks → Promise words status (call_of desk desk sinks)
refusal_promised words status desk sinks refused value taken does = record {
  does = words_refused value does refl;
  words_never_refused = λ job asks e. let f = asks_answered words (Err (Fault refused)) value taken (Some job) asks in cc;
  words_always_refused = λ asks. usage_is_one usage_line status sinks does;
  no_query_refused = λ e. usage_never status QueryRefused sinks does e;
}
