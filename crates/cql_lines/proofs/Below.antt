-- The ways from the nodes that are joined to a node.
use Rattle.std.specs.Prelude.{ℕ, List, Bool}
use Rattle.cql_lines.specs.declared.automaton.Transition.{Transition}
use Rattle.cql_lines.specs.Internal.AcceptedLengths.{AcceptedLengthFrom}

-- place j reads the first node of some way of k nodes from a node joined to n, and the way is read to its end
abbrev pub Below : (ℕ → ℕ → Bool) → List Transition → (ℕ → ℕ → Type 0) → ℕ → ℕ → ℕ → Type 0
Below test rules Edge j n k = (c : ℕ) × Edge n c × AcceptedLengthFrom test rules Edge j c k
