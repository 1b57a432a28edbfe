-- The exit status of a program.
use Rattle.std.specs.Prelude.{◌≡◌, ℕ, List}
use Rattle.cq_program.specs.Call.{Call, IsUnmoved}
use Rattle.cq_program.specs.Status.{exit_code}
use Rattle.cq_program.specs.Usage.{WritesUsage}
use Rattle.cq_program.specs.Views.{Sinks}
use Rattle.cq_program.specs.declared.status.Status.{Status}
use Rattle.cq_program.specs.declared.status.Status.TheVariants.{NoMemory}

-- the exit status is that of a status which the promise of the program allows for these words
pub record EndsWords (Promise : List (List ℕ) → Status → Call → Type 0) (words : List (List ℕ)) (code : ℕ) (call : Call) : Type 0 where
  pub status : Status
  pub code_is : code ≡ exit_code status
  pub promise : Promise words status call

-- out of memory for the words: nothing was opened, read or written
pub record EndsWithoutWords (code : ℕ) (call : Call) : Type 0 where
  pub code_is : code ≡ exit_code NoMemory
  pub unmoved : IsUnmoved call

-- the exit status is that of a status for words that are no command
pub record EndsRefused (usage : List ℕ) (code : ℕ) (sinks : Sinks) : Type 0 where
  pub status : Status
  pub code_is : code ≡ exit_code status
  pub refused : WritesUsage usage status sinks
