-- Writing a text to a sink by pages.
use Rattle.std.specs.Prelude.{◌≡◌, ℕ, List, ◌++◌, take, Result, Ok, Err}
use Rattle.cq_outside.specs.Faults.{Rose}
use Rattle.cq_outside.specs.Flow.{Grew}
use Rattle.cq_common.specs.declared.faults.Failed.{Failed}
use Rattle.cq_common.specs.declared.faults.Refusal.{Refusal}
use Rattle.cq_common.specs.declared.faults.Refusal.TheVariants.{Fault, NoMemory}
use Rattle.cq_program.specs.Views.{SinkView}

-- all of a text was written but for these bytes at its end, which wait
pub record WaitsOf (text : List ℕ) (was now : SinkView) (waiting : List ℕ) : Type 0 where
  pub written : List ℕ
  pub all : text ≡ written ++ waiting
  pub grew : Grew was.taken now.taken written
  pub same : now.faults ≡ was.faults

-- a prefix of a text was written, and then a write failed, or the call was out of memory
abbrev pub FailsIn : List ℕ → SinkView → SinkView → Refusal Failed → Type 0
FailsIn text was now (Fault _) = ((count : ℕ) × Grew was.taken now.taken (take count text)) × Rose was.faults now.faults
FailsIn text was now NoMemory = ((count : ℕ) × Grew was.taken now.taken (take count text)) × (now.faults ≡ was.faults)

abbrev pub Adds : List ℕ → SinkView → SinkView → List ℕ → Result (Unit {0}) (Refusal Failed) → Type 0
Adds text was now waiting (Ok _) = WaitsOf text was now waiting
Adds text was now waiting (Err refusal) = FailsIn text was now refusal

abbrev pub WritesText : List ℕ → SinkView → SinkView → Result (Unit {0}) (Refusal Failed) → Type 0
WritesText text was now (Ok _) = Grew was.taken now.taken text × (now.faults ≡ was.faults)
WritesText text was now (Err refusal) = FailsIn text was now refusal
