-- The promise of `run` from the work for the words.
use Rattle.std.proofs.Common.{◌≡◌, ℕ, true, List, [], ◌∷◌, Option, Some, None, Ok, Err, refl, subst, inl, inr}
use Rattle.std.specs.Prelude.{Result}
use Rattle.clap.specs.Takes.{takes}
use Rattle.clap.specs.Simple.{matches_of}
use Rattle.cq_common.specs.declared.faults.Refusal.{Refusal}
use Rattle.cq_common.specs.declared.faults.Refusal.TheVariants.{Fault}
use Rattle.cq_program.proofs.Refusals.{usage_is_one}
use Rattle.cq_program.specs.Call.{Call, call_of}
use Rattle.cq_program.specs.Opening.{Opened, FailsToOpen}
use Rattle.cq_program.specs.Usage.{WritesUsage}
use Rattle.cq_program.specs.Views.{SourceView, DeskView, Sinks, IsUnwritten}
use Rattle.cq_program.specs.declared.status.Status.{Status}
use Rattle.cq_program.specs.declared.status.Status.TheVariants.{DoneWithRefusals, QueryRefused, WordsRefused, OpenFault}
use Rattle.pgn_pieces.specs.Cutting.{Says}
use Rattle.pgn_pieces.specs.Jobs.{Answers, Asks, job_in, job_of_words}
use Rattle.pgn_pieces.specs.Line.{line}
use Rattle.pgn_pieces.specs.Promise.{DoesWords, Promise, archive_cut, archive_unopened, words_refused, pipe_of, usage_line}
use Rattle.pgn_pieces.specs.declared.job.Job.{Job}
use Rattle.pgn_pieces.specs.declared.job.WordsRefused.{WordsRefused as RefusedWords}

asks_answered : (words : List (List ℕ)) (result : Result Job (Refusal RefusedWords)) → Answers (job_of_words words) result → (takes line words ≡ true → Answers (job_in (matches_of line words)) result)
    → (job : Option Job) → Asks words job → Answers job result
asks_answered words result value taken job (inl promised) = subst (λ j. Answers j result) promised.1 (taken promised.0)
asks_answered words result value taken job (inr is) = subst (λ j. Answers j result) is value

-- the archive was opened and cut
pub cut_promised : (words : List (List ℕ)) (status : Status) (call : Call) (job : Job) (file : SourceView) → Answers (job_of_words words) (Ok job)
    → (takes line words ≡ true → Answers (job_in (matches_of line words)) (Ok job)) → Opened job.archive call.desk call.desk_after file
    → Says status job.least (pipe_of file call.sinks.out) (pipe_of call.desk_after.file call.sinks.out_after)
    → call.sinks.err_after ≡ call.sinks.err → Promise words status call
cut_promised words status call job file value taken opened says err =
    let never : (s : Status) → status ≡ s → Says s job.least (pipe_of file call.sinks.out) (pipe_of call.desk_after.file call.sinks.out_after) =
    λ s e. subst (λ (t : Status). Says t job.least (pipe_of file call.sinks.out) (pipe_of call.desk_after.file call.sinks.out_after)) e says in
    record {
      does = archive_cut job value file opened says err;
      words_never_refused = λ other asks e. never WordsRefused e;
      words_always_refused = λ asks. absurd (let e = asks_answered words (Ok job) value taken None asks in cc);
      no_game_refused = λ e. never DoneWithRefusals e;
      no_query_refused = λ e. never QueryRefused e;
    }

-- the archive could not be opened
pub unopened_promised : (words : List (List ℕ)) (desk after : DeskView) (sinks : Sinks) (job : Job) → Answers (job_of_words words) (Ok job)
    → (takes line words ≡ true → Answers (job_in (matches_of line words)) (Ok job)) → FailsToOpen desk after → IsUnwritten sinks
    → Promise words OpenFault (call_of desk after sinks)
unopened_promised words desk after sinks job value taken fails same = record {
  does = archive_unopened job value refl fails same;
  words_never_refused = λ other asks e. cc;
  words_always_refused = λ asks. absurd (let e = asks_answered words (Ok job) value taken None asks in cc);
  no_game_refused = λ e. cc;
  no_query_refused = λ e. cc;
}

usage_never : (status s : Status) (sinks : Sinks) → WritesUsage usage_line status sinks → status ≡ s → WritesUsage usage_line s sinks
usage_never status s sinks does e = subst (λ (t : Status). WritesUsage usage_line t sinks) e does

-- the words are no command
pub refusal_promised : (words : List (List ℕ)) (status : Status) (desk : DeskView) (sinks : Sinks) (refused : RefusedWords) → Answers (job_of_words words) (Err (Fault refused))
    → (takes line words ≡ true → Answers (job_in (matches_of line words)) (Err (Fault refused))) → WritesUsage usage_line status sinks → Promise words status (call_of desk desk sinks)
refusal_promised words status desk sinks refused value taken does = record {
  does = words_refused value does refl;
  words_never_refused = λ job asks e. let f = asks_answered words (Err (Fault refused)) value taken (Some job) asks in cc;
  words_always_refused = λ asks. usage_is_one usage_line status sinks does;
  no_game_refused = λ e. usage_never status DoneWithRefusals sinks does e;
  no_query_refused = λ e. usage_never status QueryRefused sinks does e;
}
