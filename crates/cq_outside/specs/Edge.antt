-- The contracts' view of the real edge: a desk over the real files, and a sink over a real stream.
use Rattle.std.specs.Prelude.{◌≡◌, ℕ, ◌+◌, ◌<◌, ◌≤◌, ◌⊎◌, List, [], length, codes, Option, None, Some, Result, Ok, Err, IsUtf8}
use Rattle.cq_common.specs.declared.faults.Failed.{Failed}
use Rattle.cq_common.specs.declared.faults.OpenFault.{OpenFault}
use Rattle.cq_outside.specs.declared.edge.OpenInput.{OpenInput}
use Rattle.cq_outside.specs.declared.edge.OpenInput.TheVariants.{Nothing, Input, File}

-- a stream that is read: the bytes left and the number of reads, each if its reader tells it
pub record Stream : Type 0 where
  pub left : Option (List ℕ)
  pub reads : Option ℕ

-- A desk over the real files. It counts reads and opens that failed. It has the number of openings if the system tells it, standard input,
-- and the open input, with its stream if it is a file.
pub record RealDesk : Type 0 where
  pub read_faults : ℕ
  pub open_faults : ℕ
  pub openings : Option ℕ
  pub input : Stream
  pub current : OpenInput Stream

-- the open stream; if nothing is open, a stream at its end that tells no reads
abbrev pub open_stream : RealDesk → Stream
open_stream desk = elim desk.current [ Nothing ↦ record { left = Some []; reads = None } | Input ↦ desk.input | File stream ↦ stream ]

-- the bytes left of the open stream if its reader tells them, none if nothing is open
abbrev pub bytes_left : RealDesk → Option (List ℕ)
bytes_left desk = (open_stream desk).left

-- the same desk with this stream in place of the open one
abbrev pub with_stream : RealDesk → Stream → RealDesk
with_stream desk stream = elim desk.current [
  | Nothing ↦ desk
  | Input ↦ record desk { input = stream; current = Input }
  | File _ ↦ record desk { current = File stream }
]

-- a desk after a list of reads, perhaps empty: the count of faults did not fall, and nothing else changed but the open stream
abbrev pub ReadsOn : RealDesk → RealDesk → Type 0
ReadsOn before now =
    (before.read_faults ≤ now.read_faults) × (now ≡ with_stream (record before { read_faults = now.read_faults }) (open_stream now))

-- the count rose by one, if it is told
abbrev pub IsOneMore : Option ℕ → Option ℕ → Type 0
IsOneMore None now = now ≡ None
IsOneMore (Some before) now = now ≡ Some (before + 1)

-- The number of openings after a name was opened. It rises by one, but stays the same for standard input and for a name that is not UTF-8.
pub record CountsOpening (name : List ℕ) (before now : Option ℕ) : Type 0 where
  pub file : IsUtf8 name → (name ≡ codes "-" → ⊥) → IsOneMore before now
  pub input : name ≡ codes "-" → now ≡ before
  pub no_text : (IsUtf8 name → ⊥) → now ≡ before

-- the open input after a name was opened: standard input for `-`, a file for any other name
abbrev pub IsOpened : List ℕ → OpenInput Stream → Type 0
IsOpened name Nothing = ⊥
IsOpened name Input = name ≡ codes "-"
IsOpened name (File _) = name ≡ codes "-" → ⊥

-- the possible results of reads, by the stream; the possible results of writes, by the bytes that the stream holds and the bytes written
abbrev pub Reads : Type 1
Reads = Stream → Result ℕ Failed → Type 0

abbrev pub Writes : Type 1
Writes = Option (List ℕ) → List ℕ → Result ℕ Failed → Type 0

-- A read of the desk returns the result of one read of the open input. It returns 0 if nothing is open.
abbrev pub IsReadOf : Reads → Reads → RealDesk → Result ℕ Failed → Type 0
IsReadOf of_input of_file desk result =
    elim desk.current [ Nothing ↦ result ≡ Ok 0 | Input ↦ of_input desk.input result | File stream ↦ of_file stream result ]

-- the open input is standard input, or the file that was opened by this name
abbrev pub IsFileOf : (List ℕ → Stream → Type 0) → List ℕ → OpenInput Stream → Type 0
IsFileOf opened name Nothing = ⊥
IsFileOf opened name Input = name ≡ codes "-"
IsFileOf opened name (File stream) = opened name stream

-- A name was opened, or the system failed to open the file of this name. A name that is not UTF-8 names no file.
abbrev pub IsOpenedBy : (List ℕ → Stream → Type 0) → (List ℕ → Type 0) → List ℕ → RealDesk
    → Result (Unit {0}) OpenFault → Type 0
IsOpenedBy opened refused name desk (Ok _) = IsFileOf opened name desk.current
IsOpenedBy opened refused name desk (Err _) = IsUtf8 name → refused name

-- a sink over a real stream: the number of failed writes, and the bytes that the stream holds if it tells them
pub record RealSink : Type 0 where
  pub faults : ℕ
  pub contents : Option (List ℕ)

-- A write to the sink returns the result of one write to the stream. It fails if the stream took none of at least one byte.
abbrev pub IsWriteOf : Writes → RealSink → List ℕ → Result ℕ Failed → Type 0
IsWriteOf of_writer sink bytes (Ok n) = of_writer sink.contents bytes (Ok n)
IsWriteOf of_writer sink bytes (Err e) =
    of_writer sink.contents bytes (Err e) ⊎ ((0 < length bytes) × of_writer sink.contents bytes (Ok 0))
