-- The words of which `clap` returns an error.
use Rattle.std.proofs.Common.{◌≡◌, List, [], ◌∷◌, true, sym, subst, ap, inl, inr}
use Rattle.clap.specs.Words.{App, HasKind, Kinds, Text, fault_of, is_simple_and_free, kind_of, takes}
use Rattle.clap.specs.declared.error.Error.{Error}
use Rattle.clap.specs.declared.error.kind.ErrorKind.TheVariants.{OutOfMemory}
use Rattle.cq_common.specs.declared.faults.Refusal.TheVariants.{Fault}
use Rattle.cq_words.specs.declared.job.WordsRefused.{WordsRefused}
use Rattle.cq_words.specs.Line.{line}
use Rattle.cq_words.specs.Internal.Promises.{IsRefused}

only_memory : (kinds : Kinds) (e : Error) → HasKind kinds e → kinds ≡ [] → kind_of e ≡ OutOfMemory
only_memory [] e (inl memory) empty = memory
only_memory [] e (inr none) empty = absurd none
only_memory (k ∷ ks) e h empty = cc

-- an error of another kind than memory
pub refused_words : (a : App) (words : List Text) (e : Error) (refused : WordsRefused) → a ≡ line
    → (is_simple_and_free a ≡ true → HasKind (fault_of a words) e)
    → (takes a words ≡ true → kind_of e ≡ OutOfMemory)
    → (kind_of e ≡ OutOfMemory → ⊥) → IsRefused words (Fault refused)
refused_words a words e refused is kinds passes other = (
  λ empty. other (only_memory (fault_of a words) e (kinds (ap is_simple_and_free is))
      (subst (λ (x : App). fault_of x words ≡ []) (sym is) empty)),
  λ taken. other (passes (subst (λ (x : App). takes x words ≡ true) (sym is) taken)),
)
