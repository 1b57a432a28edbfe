-- The texts of the games of batches, as the private functions give them.
use Rattle.std.specs.Prelude.{◌≡◌, ℕ, ◌+◌, ◌-◌, ◌<◌, List, [], ◌∷◌, ◌++◌, length, take, Option, None, Some, Result, Ok, Err}
use Rattle.std.specs.List.{flat_map, sum_by}
use Rattle.pgn_batches.specs.KeptGames.{KeptGames}
use Rattle.cq_outside.specs.Faults.{Rose}
use Rattle.cq_outside.specs.Flow.{Grew}
use Rattle.cq_report.specs.Games.{summary_line}
use Rattle.pgn_json.specs.Lines.{ArchiveGame, fault_lines, faulty, lines}
use Rattle.pgn_json.specs.Internal.Parts.{Part}
use Rattle.cq_program.specs.Views.{SinkView}
use Rattle.pgn_json.specs.Writing.{NoWriteFailed, OneWriteFailed, Sinks, Writes}
use Rattle.cq_program.specs.declared.status.Status.{Status}
use Rattle.cq_program.specs.declared.status.Status.TheVariants.{Done, DoneWithRefusals, WriteFault, NoMemory}
use Rattle.pgn_json.specs.declared.texts.Texts.{Texts}
use Rattle.pgn_reader.specs.Verdict.{IsReadResult}

-- these are games that batches keep, the first having this number
abbrev pub AreKept : ℕ → KeptGames → List ArchiveGame → Type 0
AreKept number [] [] = Unit {0}
AreKept number [] (e ∷ es) = ⊥
AreKept number (g ∷ gs) [] = ⊥
AreKept number (g ∷ gs) (e ∷ es) =
    ((e.number ≡ number) × (e.byte ≡ g.start) × IsReadResult g.start g.first g.bytes e.outcome) × AreKept (number + 1) gs es

-- the texts of some games, the first having this number
pub record AreTextsOf (mark : List ℕ) (number : ℕ) (games : KeptGames) (texts : Texts) : Type 0 where
  pub entries : List ArchiveGame
  pub are : AreKept number games entries
  pub lines_ : texts.lines ≡ lines mark entries
  pub faults_ : texts.faults ≡ fault_lines entries
  pub faulty_ : texts.faulty ≡ faulty entries

-- games of an archive from its first one on were taken, so many of which are faulty: they were written
pub record HasTaken (mark : List ℕ) (was now : Sinks) (count : ℕ) (games : KeptGames) : Type 0 where
  pub entries : List ArchiveGame
  pub are : AreKept 1 games entries
  pub count_is : count ≡ faulty entries
  pub writes : Writes was now (lines mark entries) (fault_lines entries)
  pub unfailed : NoWriteFailed was now

-- such games were written, then the first ones of the next batch, and a prefix of the texts of some games after these
pub record IsCutShort (mark : List ℕ) (was now : Sinks) (games batch : KeptGames) : Type 0 where
  pub first : KeptGames
  pub part : KeptGames
  pub rest : KeptGames
  pub split : batch ≡ first ++ (part ++ rest)
  pub entries : List ArchiveGame
  pub next : List ArchiveGame
  pub are : AreKept 1 (games ++ first) entries
  pub next_are : AreKept (1 + length (games ++ first)) part next
  pub out_count : ℕ
  pub err_count : ℕ
  pub writes : Writes was now (lines mark entries ++ take out_count (lines mark next))
      (fault_lines entries ++ take err_count (fault_lines next))

-- the visit was stopped at the games of the next batch: a write failed, or the call was out of memory
abbrev pub HasStopped : List ℕ → Sinks → Sinks → KeptGames → KeptGames → Status → Type 0
HasStopped mark was now games batch WriteFault = IsCutShort mark was now games batch × OneWriteFailed was now
HasStopped mark was now games batch NoMemory = IsCutShort mark was now games batch × NoWriteFailed was now
HasStopped mark was now games batch _ = ⊥

-- the texts of several games, one after the other, and the number of faulty ones
abbrev pub all_lines : List Texts → List ℕ
all_lines texts = flat_map (λ t. t.lines) texts

abbrev pub all_faults : List Texts → List ℕ
all_faults texts = flat_map (λ t. t.faults) texts

abbrev pub all_faulty : List Texts → ℕ
all_faulty texts = sum_by (λ t. t.faulty) texts

-- the games of a part were written, so many of which are faulty
pub record HasWritten (part : Part) (was now : Sinks) (count : ℕ) : Type 0 where
  pub texts : Texts
  pub are : AreTextsOf part.mark (part.before + 1) part.games texts
  pub writes : Writes was now texts.lines texts.faults
  pub count_is : count ≡ texts.faulty
  pub unfailed : NoWriteFailed was now

-- a prefix of the texts of some first games of a part was written
pub record HasWrittenFront (part : Part) (was now : Sinks) : Type 0 where
  pub games : KeptGames
  pub rest : KeptGames
  pub split : part.games ≡ games ++ rest
  pub next : List ArchiveGame
  pub are : AreKept (part.before + 1) games next
  pub out_count : ℕ
  pub err_count : ℕ
  pub writes : Writes was now (take out_count (lines part.mark next)) (take err_count (fault_lines next))

-- the result of a call that writes a part
abbrev pub AnswersPart : Part → Sinks → Sinks → Result ℕ Status → Type 0
AnswersPart part was now (Ok count) = HasWritten part was now count
AnswersPart part was now (Err WriteFault) = HasWrittenFront part was now × OneWriteFailed was now
AnswersPart part was now (Err NoMemory) = HasWrittenFront part was now × NoWriteFailed was now
AnswersPart part was now (Err _) = ⊥

-- the result of a call that writes a batch: nothing, or the cause why it was stopped
abbrev pub AnswersBatch : List ℕ → Sinks → Sinks → ℕ → KeptGames → KeptGames → Option Status → Type 0
AnswersBatch mark was now count games batch None = HasTaken mark was now count (games ++ batch)
AnswersBatch mark was now count games batch (Some status) = HasStopped mark was now games batch status

-- the last line of a report was written, and tells of no faulty game or of some, or a prefix of it was written
abbrev pub WritesSummary : (games faulty : ℕ) → SinkView → SinkView → Status → Type 0
WritesSummary games count was now Done =
    (count ≡ 0) × Grew was.taken now.taken (summary_line games (games - count) count) × (now.faults ≡ was.faults)
WritesSummary games count was now DoneWithRefusals =
    (0 < count) × Grew was.taken now.taken (summary_line games (games - count) count) × (now.faults ≡ was.faults)
WritesSummary games count was now WriteFault =
    ((k : ℕ) × Grew was.taken now.taken (take k (summary_line games (games - count) count))) × Rose was.faults now.faults
WritesSummary games count was now NoMemory = now ≡ was
WritesSummary games count was now _ = ⊥
