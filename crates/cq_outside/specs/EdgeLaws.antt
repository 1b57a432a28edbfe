-- Laws of a desk over the real files along reads.
use Rattle.std.specs.Prelude.{◌≡◌, ℕ, Option}
use Rattle.std.proofs.Common.{refl, ap, ◌∙◌, le_refl, le_trans}
use Rattle.cq_outside.specs.declared.edge.OpenInput.{OpenInput}
use Rattle.cq_outside.specs.declared.edge.OpenInput.TheVariants.{Nothing, Input, File}
use Rattle.cq_outside.specs.Edge.{RealDesk, Stream, open_stream, with_stream, ReadsOn}

abbrev desk : ℕ → ℕ → Option ℕ → Stream → OpenInput Stream → RealDesk
desk reads opens openings input current =
    record { read_faults = reads; open_faults = opens; openings = openings; input = input; current = current }

with_its_own : (r o : ℕ) (n : Option ℕ) (i : Stream) (c : OpenInput Stream)
    → desk r o n i c ≡ with_stream (desk r o n i c) (open_stream (desk r o n i c))
with_its_own r o n i Nothing = refl
with_its_own r o n i Input = refl
with_its_own r o n i (File stream) = refl

-- the last of two streams set is the open one
with_last : (r o q m : ℕ) (n : Option ℕ) (i a b : Stream) (c : OpenInput Stream)
    → with_stream (record (with_stream (desk q o n i c) a) { read_faults = m }) b ≡ with_stream (desk m o n i c) b
with_last r o q m n i a b Nothing = refl
with_last r o q m n i a b Input = refl
with_last r o q m n i a b (File stream) = refl

with_same_opens : (r o : ℕ) (n : Option ℕ) (i a : Stream) (c : OpenInput Stream) → (with_stream (desk r o n i c) a).open_faults ≡ o
with_same_opens r o n i a Nothing = refl
with_same_opens r o n i a Input = refl
with_same_opens r o n i a (File stream) = refl

-- every desk follows itself
pub follows_itself : (s : RealDesk) → ReadsOn s s
follows_itself s = (le_refl s.read_faults, with_its_own s.read_faults s.open_faults s.openings s.input s.current)

-- reads after reads are reads
pub follows_on : (s t u : RealDesk) → ReadsOn s t → ReadsOn t u → ReadsOn s u
follows_on s t u f g = (
  le_trans f.0 g.0,
  g.1 ∙ ap (λ (d : RealDesk). with_stream (record d { read_faults = u.read_faults }) (open_stream u)) f.1
      ∙ with_last s.read_faults s.open_faults t.read_faults u.read_faults s.openings s.input (open_stream t) (open_stream u) s.current,
)

-- reads open nothing
pub same_open_faults : (s t : RealDesk) → ReadsOn s t → t.open_faults ≡ s.open_faults
same_open_faults s t f =
    ap (λ (d : RealDesk). d.open_faults) f.1
    ∙ with_same_opens t.read_faults s.open_faults s.openings s.input (open_stream t) s.current
