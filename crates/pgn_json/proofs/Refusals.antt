-- The words of which `clap` returns matches, or an error.
use Rattle.std.proofs.Common.{◌≡◌, List, [], ◌∷◌, true, sym, subst, ap, inl, inr}
use Rattle.clap.specs.Words.{App, HasKind, HasMatchesOf, Kinds, Text, fault_of, found_of, is_simple, is_simple_and_free, kind_of, matches_of, rows_of, takes}
use Rattle.clap.specs.declared.error.Error.{Error}
use Rattle.clap.specs.declared.error.kind.ErrorKind.TheVariants.{OutOfMemory}
use Rattle.clap.specs.declared.parser.matches.ArgMatches.{ArgMatches}
use Rattle.cq_common.specs.declared.faults.Refusal.TheVariants.{Fault}
use Rattle.pgn_json.specs.Jobs.{HasMatches, IsRefused}
use Rattle.pgn_json.specs.Line.{line}
use Rattle.pgn_json.specs.declared.job.WordsRefused.{WordsRefused}

pub has_matches : (a : App) (words : List Text) (m : ArgMatches) → a ≡ line
    → (is_simple_and_free a ≡ true → fault_of a words ≡ []) → HasMatchesOf a words m → HasMatches words m
has_matches a words m is free has = (
  subst (λ (x : App). fault_of x words ≡ []) is (free (ap is_simple_and_free is)),
  subst (λ (x : App). rows_of (found_of m) ≡ matches_of x words) is (has (ap is_simple is)).0,
)

only_memory : (kinds : Kinds) (e : Error) → HasKind kinds e → kinds ≡ [] → kind_of e ≡ OutOfMemory
only_memory [] e (inl memory) empty = memory
only_memory [] e (inr none) empty = absurd none
only_memory (k ∷ ks) e h empty = cc

-- an error of another kind than memory
pub refused_words : (a : App) (words : List Text) (e : Error) (refused : WordsRefused) → a ≡ line
    → (is_simple_and_free a ≡ true → HasKind (fault_of a words) e)
    → (takes a words ≡ true → kind_of e ≡ OutOfMemory)
    → (kind_of e ≡ OutOfMemory → ⊥) → IsRefused words (Fault refused)
refused_words a words e refused is kinds passes other = (
  λ empty. other (only_memory (fault_of a words) e (kinds (ap is_simple_and_free is))
      (subst (λ (x : App). fault_of x words ≡ []) (sym is) empty)),
  λ taken. other (passes (subst (λ (x : App). takes x words ≡ true) (sym is) taken)),
)
