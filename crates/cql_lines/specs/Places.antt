-- Places: the reading of a list by an automaton, node by node.
use Rattle.std.specs.Prelude.{◌≡◌, ℕ, List, [], ◌∷◌, Bool, true, false, Some, slice_get, if◌then◌else◌}
use Rattle.std.specs.Int.{bit_at}
use Rattle.cql_lines.specs.declared.automaton.FollowSet.{FollowSet}
use Rattle.cql_lines.specs.declared.automaton.Transition.{Transition}

-- bit i of a mask of places
abbrev pub IsIn : ℕ → ℕ → Type 0
IsIn mask i = bit_at mask i ≡ 1

-- a path goes on at one of these places, and doesn't end
abbrev pub from : ℕ → FollowSet
from mask = record { places = mask; ends = false }

-- the mask if b is true, else the empty one
abbrev pub when : Bool → ℕ → ℕ
when b mask = if b then mask else 0

-- The automaton reads a list to its end. A place of the set reads the first node, and the ways on after that place read the rest.
abbrev pub Accepts : (ℕ → ℕ → Bool) → List Transition → FollowSet → List ℕ → Type 0
Accepts test rules s [] = s.ends ≡ true
Accepts test rules s (x ∷ w) =
    (i : ℕ) × (r : Transition) × IsIn s.places i × (slice_get rules i ≡ Some r) × (test r.atom x ≡ true) × Accepts test rules r.after w
