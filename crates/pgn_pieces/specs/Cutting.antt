-- The bytes that are read of an archive, and the lines that are written of its pieces.
use Rattle.std.specs.Prelude.{◌≡◌, ◌⊎◌, ℕ, ◌<◌, ◌≤◌, ◌+◌, List, [], ◌++◌, length, take, Option, ◌^◌}
use Rattle.std.specs.Io.KnownBytes.{Consumes, IsAtEnd}
use Rattle.cq_outside.specs.Faults.{Rose}
use Rattle.cq_outside.specs.Flow.{Grew}
use Rattle.pgn_pieces.specs.Pieces.{ArePieces, ArePrefixPieces}
use Rattle.pgn_pieces.specs.State.{Stands}
use Rattle.pgn_pieces.specs.Table.{table}
use Rattle.pgn_pieces.specs.declared.piece.Piece.{Piece}
use Rattle.pgn_pieces.specs.declared.state.Pieces.{Pieces}
use Rattle.cq_program.specs.declared.status.Status.{Status}
use Rattle.cq_program.specs.declared.status.Status.TheVariants.{Done, ReadFault, WriteFault, NoMemory, ArchiveTooLong}

-- A source and a sink at one moment: the bytes that are left and those that are taken, if these are told, and the counts of failed reads
-- and writes.
pub record Pipe : Type 0 where
  pub left : Option (List ℕ)
  pub read_faults : ℕ
  pub taken : Option (List ℕ)
  pub write_faults : ℕ

abbrev pub pipe : {S O : Type 0} → (S → Option (List ℕ)) → (S → ℕ) → (O → Option (List ℕ)) → (O → ℕ) → S → O → Pipe
pipe left read_faults taken write_faults source out =
    record { left = left source; read_faults = read_faults source; taken = taken out; write_faults = write_faults out }

-- these bytes were read and these written
pub record Moves (was now : Pipe) (bytes text : List ℕ) : Type 0 where
  pub reads : Consumes was.left now.left bytes
  pub writes : Grew was.taken now.taken text

-- no read failed, and no write
abbrev pub NoReadFailed : Pipe → Pipe → Type 0
NoReadFailed was now = now.read_faults ≡ was.read_faults

abbrev pub NoWriteFailed : Pipe → Pipe → Type 0
NoWriteFailed was now = now.write_faults ≡ was.write_faults

-- So many bytes were read, and the lines of the pieces that are full with them were written.
pub record HasCut (least count : ℕ) (was now : Pipe) (p : Pieces) : Type 0 where
  pub front : List ℕ
  pub pieces : List Piece
  pub stands : Stands p front pieces
  pub least_is : p.least ≡ least
  pub count_is : count ≡ length front
  pub moves : Moves was now front (table pieces)
  pub reads : NoReadFailed was now
  pub writes : NoWriteFailed was now

-- The archive was read to its end, and the lines of its pieces were written.
pub record WritesTable (least : ℕ) (was now : Pipe) : Type 0 where
  pub archive : List ℕ
  pub within : length archive ≤ 2 ^ 40
  pub pieces : List Piece
  pub are : ArePieces least archive pieces
  pub moves : Moves was now archive (table pieces)
  pub whole : IsAtEnd now.left

-- These first bytes were read, and the lines of the pieces that are full with them were written.
pub record WritesFirst (least : ℕ) (was now : Pipe) (front : List ℕ) : Type 0 where
  pub pieces : List Piece
  pub are : ArePrefixPieces least front pieces
  pub moves : Moves was now front (table pieces)

-- Some first bytes were read, and then these. A prefix was written of the lines of the pieces that are full with the first ones. Or the
-- archive was read to its end, and a prefix of all its lines was written.
pub record WritesPart (least : ℕ) (was now : Pipe) (later : List ℕ) : Type 0 where
  pub front : List ℕ
  pub pieces : List Piece
  pub are : ArePrefixPieces least front pieces ⊎ (ArePieces least front pieces × (later ≡ []) × IsAtEnd now.left)
  pub count : ℕ
  pub moves : Moves was now (front ++ later) (take count (table pieces))

-- the promise of each status
abbrev pub Says : Status → ℕ → Pipe → Pipe → Type 0
Says Done least was now = WritesTable least was now × NoReadFailed was now × NoWriteFailed was now
Says ReadFault least was now =
    ((front : List ℕ) × WritesFirst least was now front) × Rose was.read_faults now.read_faults × NoWriteFailed was now
Says WriteFault least was now = WritesPart least was now [] × NoReadFailed was now × Rose was.write_faults now.write_faults
Says NoMemory least was now =
    ((later : List ℕ) × (length later ≤ 65536) × WritesPart least was now later) × NoReadFailed was now × NoWriteFailed was now
Says ArchiveTooLong least was now =
    ((front : List ℕ) × (2 ^ 40 < length front) × (length front ≤ 2 ^ 40 + 65536) × WritesFirst least was now front)
    × NoReadFailed was now × NoWriteFailed was now
Says _ least was now = ⊥
