-- The ways from a node that places read, as the private functions give them.
use Rattle.std.specs.Prelude.{◌≡◌, ℕ, suc, List, ◌∷◌, Bool, true, Some, length, slice_get}
use Rattle.cql_lines.specs.declared.automaton.Transition.{Transition}
use Rattle.cql_lines.specs.Places.{from, Accepts}
use Rattle.cq_common.specs.Walks.{IsWalk}

-- place i reads the first node of some way of k nodes from n, and the way is read to its end
abbrev pub AcceptedLengthFrom : (ℕ → ℕ → Bool) → List Transition → (ℕ → ℕ → Type 0) → ℕ → ℕ → ℕ → Type 0
AcceptedLengthFrom test rules Edge i n k =
    (w : List ℕ) × IsWalk Edge n w × (k ≡ suc (length w)) × (r : Transition) × (slice_get rules i ≡ Some r)
    × (test r.atom n ≡ true) × Accepts test rules r.after w

-- a place of f reads the first node of some way of k nodes from n, and the way is read to its end
abbrev pub AcceptedLength : (ℕ → ℕ → Bool) → List Transition → (ℕ → ℕ → Type 0) → ℕ → ℕ → ℕ → Type 0
AcceptedLength test rules Edge f n k = (w : List ℕ) × IsWalk Edge n w × (k ≡ suc (length w)) × Accepts test rules (from f) (n ∷ w)
