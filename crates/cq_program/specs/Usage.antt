-- Words that are no command of a program.
use Rattle.std.specs.Prelude.{◌≡◌, ℕ, List}
use Rattle.cq_program.specs.Views.{Sinks, Writes, WritesPrefix, NoWriteFailed, ErrFailed, text_for_err}
use Rattle.cq_program.specs.declared.status.Status.{Status}
use Rattle.cq_program.specs.declared.status.Status.TheVariants.{WordsRefused, WriteFault}

-- words that are no command: the usage line of the program is written to err, and nothing to out
abbrev pub WritesUsage : List ℕ → Status → Sinks → Type 0
WritesUsage usage WordsRefused sinks = Writes sinks (text_for_err usage) × NoWriteFailed sinks × (sinks.out_after ≡ sinks.out)
WritesUsage usage WriteFault sinks = WritesPrefix sinks (text_for_err usage) × ErrFailed sinks
WritesUsage usage _ sinks = ⊥
