-- The exit status of each way to end.
use Rattle.std.specs.Prelude.{ℕ}
use Rattle.cq_query_files.specs.declared.status.Status.{Status}
use Rattle.cq_query_files.specs.declared.status.Status.TheVariants.{Done, DoneWithRefusals, QueryRefused, WordsRefused}
use Rattle.cq_query_files.specs.declared.status.Status.TheVariants.{OpenFault, ReadFault, WriteFault, NoMemory, ArchiveTooLong}

abbrev pub exit_code : Status → ℕ
exit_code Done = 0
exit_code DoneWithRefusals = 1
exit_code QueryRefused = 2
exit_code WordsRefused = 3
exit_code OpenFault = 4
exit_code ReadFault = 5
exit_code WriteFault = 6
exit_code NoMemory = 7
exit_code ArchiveTooLong = 8
