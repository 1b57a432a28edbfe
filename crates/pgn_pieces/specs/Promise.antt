-- The promise of `pgnpieces`.
use Rattle.std.specs.Prelude.{◌≡◌, ℕ, List, [], ◌∷◌, Option, None, Some, codes}
use Rattle.cq_program.specs.Call.{Call, IsUnmoved}
use Rattle.cq_program.specs.Opening.{Opened, FailsToOpen}
use Rattle.cq_program.specs.Status.{IsOneOf}
use Rattle.cq_program.specs.Usage.{WritesUsage}
use Rattle.cq_program.specs.Views.{SourceView, SinkView, IsUnwritten}
use Rattle.cq_program.specs.declared.status.Status.{Status}
use Rattle.cq_program.specs.declared.status.Status.TheVariants.{DoneWithRefusals, QueryRefused, WordsRefused}
use Rattle.cq_program.specs.declared.status.Status.TheVariants.{OpenFault, WriteFault, NoMemory}
use Rattle.pgn_pieces.specs.Cutting.{Pipe, Says}
use Rattle.pgn_pieces.specs.Jobs.{Asks, job_of_words}
use Rattle.pgn_pieces.specs.declared.job.Job.{Job}

-- the line for words that are no command
abbrev pub usage_line : List ℕ
usage_line = codes "usage: pgnpieces ARCHIVE BYTES\n"

-- an open file and the sink for the table, at one moment
abbrev pub pipe_of : SourceView → SinkView → Pipe
pipe_of file out = record { left = file.left; read_faults = file.faults; taken = out.taken; write_faults = out.faults }

-- The work for words: they name a job, and the archive is opened and cut, or can't be opened. Or the words are no command: the usage line
-- is written, and no file is opened. Or the call was out of memory, and nothing changed.
pub data DoesWords (words : List (List ℕ)) (status : Status) (call : Call) : Type 0 where
  archive_cut : (job : Job) → job_of_words words ≡ Some job → (file : SourceView) → Opened job.archive call.desk call.desk_after file
      → Says status job.least (pipe_of file call.sinks.out) (pipe_of call.desk_after.file call.sinks.out_after)
      → call.sinks.err_after ≡ call.sinks.err → DoesWords words status call
  archive_unopened : (job : Job) → job_of_words words ≡ Some job → status ≡ OpenFault → FailsToOpen call.desk call.desk_after
      → IsUnwritten call.sinks → DoesWords words status call
  words_refused : job_of_words words ≡ None → WritesUsage usage_line status call.sinks → call.desk_after ≡ call.desk
      → DoesWords words status call
  out_of_memory : status ≡ NoMemory → IsUnmoved call → DoesWords words status call

-- The promise of `run` on its status: the work that was done for the words, and the statuses that always or never come.
pub record Promise (words : List (List ℕ)) (status : Status) (call : Call) : Type 0 where
  pub does : DoesWords words status call
  pub words_never_refused : (job : Job) → Asks words (Some job) → status ≡ WordsRefused → ⊥
  pub words_always_refused : Asks words None → IsOneOf status (WordsRefused ∷ WriteFault ∷ NoMemory ∷ [])
  pub no_game_refused : status ≡ DoneWithRefusals → ⊥
  pub no_query_refused : status ≡ QueryRefused → ⊥
