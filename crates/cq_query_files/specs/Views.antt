-- The state of a source, a desk and the sinks at one moment, and of the sinks after a call.
use Rattle.std.specs.Prelude.{◌≡◌, ◌⊎◌, ℕ, List, take, Option}
use Rattle.cq_outside.specs.Faults.{Rose}
use Rattle.cq_outside.specs.Flow.{Grew}
use Rattle.cq_outside.specs.DeskFiles.{DeskFiles}

-- a source at one moment: the bytes that are left, where it tells them, and its count of faults
pub record SourceView : Type 0 where
  pub left : Option (List ℕ)
  pub faults : ℕ

-- a desk at one moment: its telling, its open file, and its count of files that could not be opened
pub record DeskView : Type 0 where
  pub told : Option DeskFiles
  pub file : SourceView
  pub open_faults : ℕ

-- a sink at one moment
pub record SinkView : Type 0 where
  pub taken : Option (List ℕ)
  pub faults : ℕ

-- the two sinks, as a call began and as it ended
pub record Sinks : Type 0 where
  pub out : SinkView
  pub out_after : SinkView
  pub err : SinkView
  pub err_after : SinkView

-- the texts for the two sinks
pub record Texts : Type 0 where
  pub out : List ℕ
  pub err : List ℕ

-- the sinks have taken these texts
pub record Writes (sinks : Sinks) (texts : Texts) : Type 0 where
  pub out : Grew sinks.out.taken sinks.out_after.taken texts.out
  pub err : Grew sinks.err.taken sinks.err_after.taken texts.err

-- each sink has taken a prefix of its text
pub record WritesPrefix (sinks : Sinks) (texts : Texts) : Type 0 where
  pub out_count : ℕ
  pub err_count : ℕ
  pub out : Grew sinks.out.taken sinks.out_after.taken (take out_count texts.out)
  pub err : Grew sinks.err.taken sinks.err_after.taken (take err_count texts.err)

-- the sinks were not written to
pub record IsUnwritten (sinks : Sinks) : Type 0 where
  pub out : sinks.out_after ≡ sinks.out
  pub err : sinks.err_after ≡ sinks.err

-- no write failed
pub record NoWriteFailed (sinks : Sinks) : Type 0 where
  pub out : sinks.out_after.faults ≡ sinks.out.faults
  pub err : sinks.err_after.faults ≡ sinks.err.faults

-- the count of one sink rose, and that of the other did not
abbrev pub OneSinkFailed : Sinks → Type 0
OneSinkFailed sinks =
    (Rose sinks.out.faults sinks.out_after.faults × (sinks.err_after.faults ≡ sinks.err.faults))
    ⊎ (Rose sinks.err.faults sinks.err_after.faults × (sinks.out_after.faults ≡ sinks.out.faults))

-- the count of this sink rose, and the other sink was not written to
abbrev pub OutFailed : Sinks → Type 0
OutFailed sinks = Rose sinks.out.faults sinks.out_after.faults × (sinks.err_after ≡ sinks.err)

abbrev pub ErrFailed : Sinks → Type 0
ErrFailed sinks = Rose sinks.err.faults sinks.err_after.faults × (sinks.out_after ≡ sinks.out)

-- a count of a sink rose
abbrev pub SinkFailed : Sinks → Type 0
SinkFailed sinks = Rose sinks.out.faults sinks.out_after.faults ⊎ Rose sinks.err.faults sinks.err_after.faults

-- the views of a source, a desk and the sinks, from the values of their types
abbrev pub source_view : {S : Type 0} → (S → Option (List ℕ)) → (S → ℕ) → S → SourceView
source_view left faults source = record { left = left source; faults = faults source }

abbrev pub desk_view : {D : Type 0} → (D → Option DeskFiles) → (D → Option (List ℕ)) → (D → ℕ) → (D → ℕ) → D → DeskView
desk_view told left read_faults open_faults desk = record {
  told = told desk;
  file = source_view left read_faults desk;
  open_faults = open_faults desk;
}

abbrev pub sink_view : {S : Type 0} → (S → Option (List ℕ)) → (S → ℕ) → S → SinkView
sink_view taken faults sink = record { taken = taken sink; faults = faults sink }

abbrev pub sinks_of : SinkView → SinkView → SinkView → SinkView → Sinks
sinks_of out out_after err err_after = record { out = out; out_after = out_after; err = err; err_after = err_after }
