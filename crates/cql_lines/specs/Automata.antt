-- The properties of automata.
use Rattle.std.specs.Prelude.{◌≡◌, ◌↔◌, ℕ, suc, ◌+◌, ◌*◌, ◌<◌, zero, List, ◌∷◌, Bool, Some, None, slice_get}
use Rattle.cq_common.specs.Spelling.{Pattern, one, nothing, joined, repeated, Spells}
use Rattle.cql_lines.specs.declared.automaton.Transition.{Transition}
use Rattle.cql_lines.specs.declared.automaton.Automaton.{Automaton}
use Rattle.cql_lines.specs.Places.{from, Accepts}

-- The number of places of a pattern. An atom has one, and a sequence the sum of those of its parts. A repeated part counts as often as it
-- may occur, but at least once.
abbrev pub places : Pattern ℕ → ℕ
places (one a) = 1
places nothing = 0
places (joined p q) = places p + places q
places (repeated least None p) = places p
places (repeated least (Some zero) p) = places p
places (repeated least (Some (suc n)) p) = suc n * places p

-- For every test of atoms, the automaton reads from its first places exactly the lists that the pattern spells, except for the empty list.
pub record IsAutomatonOf (a : Automaton) (p : Pattern ℕ) : Type 0 where
  pub reads : (test : ℕ → ℕ → Bool) (n : ℕ) (w : List ℕ)
      → Accepts test a.rules.items (from a.first) (n ∷ w) ↔ Spells test p (n ∷ w)

-- all atoms of the automaton are below a number
abbrev pub UsesBelow : Automaton → ℕ → Type 0
UsesBelow a atoms = (i : ℕ) (r : Transition) → slice_get a.rules.items i ≡ Some r → r.atom < atoms
