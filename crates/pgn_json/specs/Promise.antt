-- The promise of `pgnjson`.
use Rattle.std.specs.Prelude.{◌≡◌, ℕ, List, [], ◌∷◌, Option, None, Some, codes}
use Rattle.std.specs.List.{join_with_byte}
use Rattle.cq_program.specs.Call.{Call, IsUnmoved}
use Rattle.cq_program.specs.Opening.{Opened, FailsToOpen}
use Rattle.cq_program.specs.Status.{IsOneOf}
use Rattle.cq_program.specs.Usage.{WritesUsage}
use Rattle.cq_program.specs.Views.{SourceView, SinkView, IsUnwritten}
use Rattle.cq_program.specs.declared.status.Status.{Status}
use Rattle.cq_program.specs.declared.status.Status.TheVariants.{QueryRefused, WordsRefused, OpenFault, WriteFault, NoMemory}
use Rattle.cq_position.specs.Comments.{words}
use Rattle.pgn_tree.specs.Words.{space, without_braces}
use Rattle.pgn_json.specs.Jobs.{Asks, job_of_words}
use Rattle.pgn_json.specs.Writing.{Pipe, Says}
use Rattle.pgn_json.specs.declared.job.Job.{Job}

-- the line for words that are no command
abbrev pub usage_line : List ℕ
usage_line = codes "usage: pgnjson [--mark TEXT] [--workers N] [--limit B] [ARCHIVE]\n"

-- an open file and the sinks for the lines and for the report, at one moment
abbrev pub pipe_at : SourceView → SinkView → SinkView → Pipe
pipe_at file out err = record { left = file.left; read_faults = file.faults; sinks = record { out = out; err = err } }

-- the comment that a node keeps of a text: its words with single spaces between them, in which a closing brace is a closing parenthesis
abbrev pub comment_of : List ℕ → List ℕ
comment_of text = join_with_byte space (words (without_braces text))

-- The work for words: they name a job, and the archive is opened and read, or can't be opened. Or the words are no command: the usage line
-- is written, and no file is opened. Or the call was out of memory, and nothing changed.
pub data DoesWords (given : List (List ℕ)) (status : Status) (call : Call) : Type 0 where
  games_written : (job : Job) → job_of_words given ≡ Some job → (file : SourceView) → Opened job.archive call.desk call.desk_after file
      → Says status job.limit (comment_of job.mark) (pipe_at file call.sinks.out call.sinks.err)
      (pipe_at call.desk_after.file call.sinks.out_after call.sinks.err_after) → DoesWords given status call
  archive_unopened : (job : Job) → job_of_words given ≡ Some job → status ≡ OpenFault → FailsToOpen call.desk call.desk_after
      → IsUnwritten call.sinks → DoesWords given status call
  words_refused : job_of_words given ≡ None → WritesUsage usage_line status call.sinks → call.desk_after ≡ call.desk
      → DoesWords given status call
  out_of_memory : status ≡ NoMemory → IsUnmoved call → DoesWords given status call

-- The promise of `run` on its status: the work that was done for the words, and the statuses that always or never come.
pub record Promise (given : List (List ℕ)) (status : Status) (call : Call) : Type 0 where
  pub does : DoesWords given status call
  pub words_never_refused : (job : Job) → Asks given (Some job) → status ≡ WordsRefused → ⊥
  pub words_always_refused : Asks given None → IsOneOf status (WordsRefused ∷ WriteFault ∷ NoMemory ∷ [])
  pub no_query_refused : status ≡ QueryRefused → ⊥
