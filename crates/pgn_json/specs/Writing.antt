-- The bytes that are read of an archive, and the texts that are written of its games.
use Rattle.std.specs.Prelude.{◌≡◌, ◌⊎◌, ℕ, ◌+◌, ◌-◌, ◌<◌, ◌≤◌, List, ◌++◌, length, take, Option}
use Rattle.std.specs.Io.KnownBytes.{Consumes, IsAtEnd}
use Rattle.pgn_batches.specs.Filling.{most_read}
use Rattle.pgn_batches.specs.Whole.{whole_spans}
use Rattle.cq_outside.specs.Faults.{Rose}
use Rattle.cq_outside.specs.Flow.{Grew}
use Rattle.pgn_cut.specs.Cut.{closed, cut}
use Rattle.pgn_json.specs.Lines.{AreEntries, ArchiveGame, HasEntries, fault_lines, faulty, lines, summary}
use Rattle.cq_program.specs.Views.{SinkView, sink_view}
use Rattle.cq_program.specs.declared.status.Status.{Status}
use Rattle.cq_program.specs.declared.status.Status.TheVariants.{Done, DoneWithRefusals, ReadFault, WriteFault, NoMemory, ArchiveTooLong}

-- the sinks for the lines and for the report at one moment
pub record Sinks : Type 0 where
  pub out : SinkView
  pub err : SinkView

abbrev pub sinks_of : {O E : Type 0} → (O → Option (List ℕ)) → (O → ℕ) → (E → Option (List ℕ)) → (E → ℕ) → O → E → Sinks
sinks_of out_taken out_faults err_taken err_faults out err =
    record { out = sink_view out_taken out_faults out; err = sink_view err_taken err_faults err }

-- these texts were written
pub record Writes (was now : Sinks) (out err : List ℕ) : Type 0 where
  pub out_ : Grew was.out.taken now.out.taken out
  pub err_ : Grew was.err.taken now.err.taken err

-- no write failed
pub record NoWriteFailed (was now : Sinks) : Type 0 where
  pub out : now.out.faults ≡ was.out.faults
  pub err : now.err.faults ≡ was.err.faults

-- a write to one sink failed, and none to the other
abbrev pub OneWriteFailed : Sinks → Sinks → Type 0
OneWriteFailed was now =
    (Rose was.out.faults now.out.faults × (now.err.faults ≡ was.err.faults))
    ⊎ (Rose was.err.faults now.err.faults × (now.out.faults ≡ was.out.faults))

-- A source and the two sinks at one moment: the bytes that are left, if they are told, and the count of failed reads.
pub record Pipe : Type 0 where
  pub left : Option (List ℕ)
  pub read_faults : ℕ
  pub sinks : Sinks

abbrev pub pipe_of : {S O E : Type 0} → (S → Option (List ℕ)) → (S → ℕ) → (O → Option (List ℕ)) → (O → ℕ)
    → (E → Option (List ℕ)) → (E → ℕ) → S → O → E → Pipe
pipe_of left read_faults out_taken out_faults err_taken err_faults source out err = record {
  left = left source;
  read_faults = read_faults source;
  sinks = sinks_of out_taken out_faults err_taken err_faults out err;
}

-- no read failed
abbrev pub NoReadFailed : Pipe → Pipe → Type 0
NoReadFailed was now = now.read_faults ≡ was.read_faults

-- The archive was read to its end, and these are its games.
pub record ReadsGames (limit : ℕ) (was now : Pipe) (archive : List ℕ) (entries : List ArchiveGame) : Type 0 where
  pub reads : Consumes was.left now.left archive
  pub within : length archive ≤ limit
  pub whole : IsAtEnd now.left
  pub are : HasEntries archive entries

-- All games were written, and the report.
pub record WritesAll (limit : ℕ) (mark : List ℕ) (AreFaulty : ℕ → Type 0) (was now : Pipe) : Type 0 where
  pub archive : List ℕ
  pub entries : List ArchiveGame
  pub reads : ReadsGames limit was now archive entries
  pub faulty_ : AreFaulty (faulty entries)
  pub writes : Writes was.sinks now.sinks (lines mark entries) (fault_lines entries ++ summary entries)

-- All games were written, and a prefix of the last line of the report.
pub record WritesGames (limit : ℕ) (mark : List ℕ) (was now : Pipe) : Type 0 where
  pub archive : List ℕ
  pub entries : List ArchiveGame
  pub reads : ReadsGames limit was now archive entries
  pub count : ℕ
  pub writes : Writes was.sinks now.sinks (lines mark entries) (fault_lines entries ++ take count (summary entries))

-- These first bytes were read, at most one more than the limit, and the games of their whole batches were written.
pub record WritesWhole (limit : ℕ) (mark : List ℕ) (AreRead : ℕ → Type 0) (was now : Pipe) : Type 0 where
  pub front : List ℕ
  pub entries : List ArchiveGame
  pub reads : Consumes was.left now.left front
  pub count : AreRead (length front)
  pub few : length front ≤ limit + 1
  pub are : AreEntries front 1 (whole_spans front) entries
  pub writes : Writes was.sinks now.sinks (lines mark entries) (fault_lines entries)

-- Some first games of an archive, of which these bytes were read: games that are closed by these, or any if they are all of it.
abbrev pub AreFirstGames : ℕ → Pipe → List ℕ → List ArchiveGame → Type 0
AreFirstGames limit now front entries =
    AreEntries front 1 (take (length entries) (closed front)) entries
    ⊎ ((length front ≤ limit) × IsAtEnd now.left × AreEntries front 1 (take (length entries) (cut front)) entries)

-- These first bytes were read, at most one more than the limit. Games were written, and a prefix of the texts of the next ones. Nothing was
-- read once that began. The games of the whole batches of all bytes, but for as many at their end as one read gives, were written before.
pub record WritesSome (limit : ℕ) (mark : List ℕ) (was now : Pipe) : Type 0 where
  pub front : List ℕ
  pub entries : List ArchiveGame
  pub next : List ArchiveGame
  pub reads : Consumes was.left now.left front
  pub few : length front ≤ limit + 1
  pub are : AreFirstGames limit now front (entries ++ next)
  pub needed : length (whole_spans (take (length front - most_read) front)) ≤ length entries
  pub out_count : ℕ
  pub err_count : ℕ
  pub writes : Writes was.sinks now.sinks (lines mark entries ++ take out_count (lines mark next))
      (fault_lines entries ++ take err_count (fault_lines next))

abbrev pub WritesPart : ℕ → List ℕ → Pipe → Pipe → Type 0
WritesPart limit mark was now = WritesSome limit mark was now ⊎ WritesGames limit mark was now

-- the promise of each status
abbrev pub Says : Status → ℕ → List ℕ → Pipe → Pipe → Type 0
Says Done limit mark was now =
    WritesAll limit mark (λ n. n ≡ 0) was now × NoReadFailed was now × NoWriteFailed was.sinks now.sinks
Says DoneWithRefusals limit mark was now =
    WritesAll limit mark (λ n. 0 < n) was now × NoReadFailed was now × NoWriteFailed was.sinks now.sinks
Says ReadFault limit mark was now =
    WritesWhole limit mark (λ n. n ≤ limit) was now × Rose was.read_faults now.read_faults × NoWriteFailed was.sinks now.sinks
Says ArchiveTooLong limit mark was now =
    WritesWhole limit mark (λ n. limit < n) was now × NoReadFailed was now × NoWriteFailed was.sinks now.sinks
Says WriteFault limit mark was now = WritesPart limit mark was now × NoReadFailed was now × OneWriteFailed was.sinks now.sinks
Says NoMemory limit mark was now = WritesPart limit mark was now × NoReadFailed was now × NoWriteFailed was.sinks now.sinks
Says _ limit mark was now = ⊥
