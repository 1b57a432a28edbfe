-- The promise of `answer`: its status, the texts that out and err have taken, and the cause of each status.
use Rattle.std.specs.Prelude.{◌≡◌, ◌⊎◌, ℕ, ◌+◌, ◌-◌, ◌≤◌, ◌<◌, List, [], ◌∷◌, length, take, Option, None, Some}
use Rattle.std.specs.Io.KnownBytes.{Consumes, IsAtEnd}
use Rattle.pgn_batches.specs.Filling.{most_read}
use Rattle.pgn_batches.specs.Whole.{whole_spans}
use Rattle.cq_outside.specs.Faults.{Rose}
use Rattle.cq_outside.specs.Flow.{TakesAtMost}
use Rattle.cq_shards.specs.ReadResults.{ReadResult}
use Rattle.pgn_cut.specs.Cut.{closed}
use Rattle.pgn_cut.specs.declared.span.Span.{Span}
use Rattle.cq_query_files.specs.declared.status.Status.{Status}
use Rattle.cq_query_files.specs.declared.status.Status.TheVariants.{Done, DoneWithRefusals, ReadFault, WriteFault, NoMemory, ArchiveTooLong}
use Rattle.cq_query_files.specs.Views.{SourceView, Sinks, Texts, Writes, WritesPrefix, NoWriteFailed, OneSinkFailed, SinkFailed}
use Rattle.cq_search.specs.ArchiveGames.{AreRead, HasGames}

-- the status is one of these
abbrev pub IsOneOf : Status → List Status → Type 0
IsOneOf status [] = ⊥
IsOneOf status (one ∷ more) = (status ≡ one) ⊎ IsOneOf status more

-- a call of `answer`: the limit on the archive in bytes, and the source and the sinks, as the call began and as it ended
pub record SearchCall : Type 0 where
  pub limit : ℕ
  pub source : SourceView
  pub source_after : SourceView
  pub sinks : Sinks

-- The expected output, from the results of reading the games of an archive. `ended`: the texts of all games of an archive that was read to
-- its end, so many of which are faulty. `early`: the texts of the games of the whole batches, if these suffice and no more is read.
-- `faulted`: the texts of the games of the whole batches, after a fault of reading. `reading`: the texts of the closed games, of which a
-- prefix is written while the archive is read.
pub record OutputSpec : Type 1 where
  pub ended : List ReadResult → ℕ → Texts → Type 0
  pub early : List ReadResult → ℕ → Texts → Type 0
  pub faulted : List ReadResult → Texts → Type 0
  pub reading : List ReadResult → Texts → Type 0

-- told bytes are these; if none are told they may be any
abbrev pub AgreesWith : Option (List ℕ) → List ℕ → Type 0
AgreesWith None bytes = Unit {0}
AgreesWith (Some told) bytes = told ≡ bytes

-- these bytes were left, within the limit, and all of them were read
pub record ReadsWhole (limit : ℕ) (source after : SourceView) (archive : List ℕ) : Type 0 where
  pub is : AgreesWith source.left archive
  pub within : length archive ≤ limit
  pub at_end : IsAtEnd after.left

-- more than the limit was taken
pub record TakesTooMuch (limit : ℕ) (source after : SourceView) : Type 0 where
  pub bytes : List ℕ
  pub takes : Consumes source.left after.left bytes
  pub long : limit < length bytes

-- the same at a source that tells its bytes
pub record ExceedsLimit (limit : ℕ) (source after : SourceView) : Type 0 where
  pub told : List ℕ
  pub tells : source.left ≡ Some told
  pub too_much : TakesTooMuch limit source after

-- no read and no write failed
pub record NothingFails (call : SearchCall) : Type 0 where
  pub source : call.source_after.faults ≡ call.source.faults
  pub sinks : NoWriteFailed call.sinks

-- the sinks have taken some of these texts
pub record WritesSome (Are : Texts → Type 0) (sinks : Sinks) : Type 0 where
  pub texts : Texts
  pub are : Are texts
  pub writes : Writes sinks texts

-- each sink has taken a prefix of one of these texts
pub record WritesPart (Are : Texts → Type 0) (sinks : Sinks) : Type 0 where
  pub texts : Texts
  pub are : Are texts
  pub writes : WritesPrefix sinks texts

-- so many games are faulty as is given, and the sinks have taken the texts
pub record WritesAll (Are : ℕ → Texts → Type 0) (AreRefused : ℕ → Type 0) (sinks : Sinks) : Type 0 where
  pub refused : ℕ
  pub is : AreRefused refused
  pub writes : WritesSome (Are refused) sinks

-- The bytes taken of the archive, and the results of reading some of its games.
pub record ReadsPrefix (call : SearchCall) (games : List ℕ → List Span) (Holds : List ℕ → List ReadResult → Type 0) : Type 0 where
  pub front : List ℕ
  pub outcomes : List ReadResult
  pub takes : Consumes call.source.left call.source_after.left front
  pub few : length front ≤ call.limit + 1
  pub are_read : AreRead front (games front) outcomes
  pub holds : Holds front outcomes

-- The archive was read to its end, and its games are read as these.
pub record ReadsArchive (call : SearchCall) (Holds : List ReadResult → Type 0) : Type 0 where
  pub archive : List ℕ
  pub outcomes : List ReadResult
  pub reads : ReadsWhole call.limit call.source call.source_after archive
  pub are_read : HasGames archive outcomes
  pub holds : Holds outcomes

-- all was written: of all games, or of those that suffice
abbrev pub Answers : OutputSpec → SearchCall → (ℕ → Type 0) → Type 0
Answers expected_output call AreRefused =
    (ReadsArchive call (λ outcomes. WritesAll (expected_output.ended outcomes) AreRefused call.sinks)
    ⊎ ReadsPrefix call whole_spans (λ front outcomes. WritesAll (expected_output.early outcomes) AreRefused call.sinks))
    × NothingFails call

-- the texts of an archive that was read to its end, and those before its end
abbrev pub Unfinished : OutputSpec → List ReadResult → Texts → Type 0
Unfinished expected_output outcomes texts = expected_output.reading outcomes texts ⊎ ((refused : ℕ) × expected_output.ended outcomes refused texts)

-- each sink has taken a prefix of its text, as the archive was read or once it was
abbrev pub EndsWithPartialOutput : OutputSpec → SearchCall → Type 0
EndsWithPartialOutput expected_output call =
    ReadsPrefix call closed (λ front outcomes. WritesPart (expected_output.reading outcomes) call.sinks)
    ⊎ ReadsArchive call (λ outcomes. WritesPart (Unfinished expected_output outcomes) call.sinks)

-- after a fault of reading: the texts of the games of the whole batches were written
abbrev pub EndsAtReadFault : OutputSpec → SearchCall → (ℕ → Type 0) → Type 0
EndsAtReadFault expected_output call AreTaken =
    ReadsPrefix call whole_spans (λ front outcomes. AreTaken (length front) × WritesSome (expected_output.faulted outcomes) call.sinks)

-- the promise of each status
abbrev pub StatusPromise : Status → OutputSpec → SearchCall → Type 0
StatusPromise Done expected_output call = Answers expected_output call (λ refused. refused ≡ 0)
StatusPromise DoneWithRefusals expected_output call = Answers expected_output call (λ refused. 0 < refused)
StatusPromise ReadFault expected_output call =
    Rose call.source.faults call.source_after.faults × NoWriteFailed call.sinks × EndsAtReadFault expected_output call (λ taken. Unit {0})
StatusPromise WriteFault expected_output call =
    OneSinkFailed call.sinks × (call.source_after.faults ≡ call.source.faults) × EndsWithPartialOutput expected_output call
StatusPromise NoMemory expected_output call = EndsWithPartialOutput expected_output call × NothingFails call
StatusPromise ArchiveTooLong expected_output call = EndsAtReadFault expected_output call (λ taken. call.limit < taken) × NothingFails call
StatusPromise _ expected_output call = ⊥

-- the games of the whole batches of some bytes suffice
pub record Suffices (expected_output : OutputSpec) (front : List ℕ) : Type 0 where
  pub outcomes : List ReadResult
  pub are_read : AreRead front (whole_spans front) outcomes
  pub refused : ℕ
  pub texts : Texts
  pub early : expected_output.early outcomes refused texts

-- the games of the whole batches of the bytes taken suffice
abbrev pub EndsEarly : OutputSpec → SearchCall → Type 0
EndsEarly expected_output call = (front : List ℕ) × Consumes call.source.left call.source_after.left front × Suffices expected_output front

-- an archive within the limit, or one of which less suffices, and no count that rose
pub record AnswersAll (expected_output : OutputSpec) (call : SearchCall) : Type 0 where
  pub archive : List ℕ
  pub tells : call.source.left ≡ Some archive
  pub within : (length archive ≤ call.limit) ⊎ Suffices expected_output (take call.limit archive)
  pub no_read : Rose call.source.faults call.source_after.faults → ⊥
  pub no_write : SinkFailed call.sinks → ⊥

-- Less did not suffice: the games of the whole batches of the bytes taken, without the last piece of them, do not.
pub record ReadsNoMore (expected_output : OutputSpec) (call : SearchCall) : Type 0 where
  pub front : List ℕ
  pub takes : Consumes call.source.left call.source_after.left front
  pub needed : Suffices expected_output (take (length front - most_read) front) → ⊥

-- the promise of `answer` on its status
pub record AnswerPromise (expected_output : OutputSpec) (status : Status) (call : SearchCall) : Type 0 where
  pub says : StatusPromise status expected_output call
  pub takes : TakesAtMost (call.limit + 1) call.source.left call.source_after.left
  pub reads_no_more : ReadsNoMore expected_output call
  pub too_long_always : ExceedsLimit call.limit call.source call.source_after
      → IsOneOf status (ArchiveTooLong ∷ WriteFault ∷ NoMemory ∷ []) ⊎ EndsEarly expected_output call
  pub complete : AnswersAll expected_output call → IsOneOf status (Done ∷ DoneWithRefusals ∷ NoMemory ∷ [])
