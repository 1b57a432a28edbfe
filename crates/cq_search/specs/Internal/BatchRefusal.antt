-- The status of a call that ends with the refusal of a batch.
use Rattle.pgn_batches.specs.declared.state.BatchFault.{BatchFault}
use Rattle.pgn_batches.specs.declared.state.BatchFault.TheVariants.{ReadFault as TheReadFault, ArchiveTooLong as TheArchiveTooLong}
use Rattle.cq_common.specs.declared.faults.Refusal.{Refusal}
use Rattle.cq_common.specs.declared.faults.Refusal.TheVariants.{Fault, NoMemory as IsNoMemory}
use Rattle.cq_query_files.specs.declared.status.Status.{Status}
use Rattle.cq_query_files.specs.declared.status.Status.TheVariants.{ReadFault, NoMemory, ArchiveTooLong}

abbrev pub status_after : Refusal BatchFault → Status
status_after (Fault TheReadFault) = ReadFault
status_after (Fault TheArchiveTooLong) = ArchiveTooLong
status_after IsNoMemory = NoMemory
