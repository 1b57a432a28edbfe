-- The exit status of the program.
use Rattle.std.specs.Prelude.{◌≡◌, ℕ, List}
use Rattle.cq_run.specs.Run.{Call, IsUnmoved, Promise}
use Rattle.cq_query_files.specs.Status.{exit_code}
use Rattle.cq_query_files.specs.declared.status.Status.{Status}
use Rattle.cq_query_files.specs.declared.status.Status.TheVariants.{NoMemory}

-- the exit status is that of the status that `run` returns for these words
pub record EndsWords (words : List (List ℕ)) (code : ℕ) (call : Call) : Type 0 where
  pub status : Status
  pub code_is : code ≡ exit_code status
  pub answered : Promise words status call

-- out of memory for the words: nothing was opened, read or written
pub record EndsWithoutWords (code : ℕ) (call : Call) : Type 0 where
  pub code_is : code ≡ exit_code NoMemory
  pub unmoved : IsUnmoved call
