-- The statuses of words that are no command.
use Rattle.std.proofs.Common.{ℕ, List, [], ◌∷◌, refl, inl, inr}
use Rattle.cq_program.specs.Status.{IsOneOf}
use Rattle.cq_program.specs.Usage.{WritesUsage}
use Rattle.cq_program.specs.Views.{Sinks}
use Rattle.cq_program.specs.declared.status.Status.{Status}
use Rattle.cq_program.specs.declared.status.Status.TheVariants.{Done, DoneWithRefusals, QueryRefused, WordsRefused, OpenFault, ReadFault, WriteFault, NoMemory, ArchiveTooLong}

pub usage_is_one : (usage : List ℕ) (status : Status) (sinks : Sinks) → WritesUsage usage status sinks → IsOneOf status (WordsRefused ∷ WriteFault ∷ NoMemory ∷ [])
usage_is_one usage WordsRefused sinks does = inl refl
usage_is_one usage WriteFault sinks does = inr (inl refl)
usage_is_one usage Done sinks does = absurd does
usage_is_one usage DoneWithRefusals sinks does = absurd does
usage_is_one usage QueryRefused sinks does = absurd does
usage_is_one usage OpenFault sinks does = absurd does
usage_is_one usage ReadFault sinks does = absurd does
usage_is_one usage NoMemory sinks does = absurd does
usage_is_one usage ArchiveTooLong sinks does = absurd does
