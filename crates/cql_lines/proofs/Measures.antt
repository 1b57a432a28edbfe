-- The laws of the numbers that represent lengths, by the greatest of them or by their set.
use Rattle.std.proofs.Common.{◌≡◌, ℕ, List, length, Some, slice_get}
use Rattle.std.specs.Prelude.{◌⊎◌}
use Rattle.cql_lines.specs.declared.automaton.Transition.{Transition}
use Rattle.cql_lines.specs.Internal.AcceptedLengths.{AcceptedLengthFrom}
use Rattle.cql_lines.proofs.Below.{Below}
use Rattle.cql_lines.specs.Internal.Lengths.{is_set}
use Rattle.cql_lines.specs.Tables.{holds}

abbrev pub Measure : Type 1
Measure = (ℕ → Type 0) → ℕ → Type 0

-- the same lengths have the same number
abbrev pub Keeps : Measure → Type 1
Keeps Represents = (P R : ℕ → Type 0) (a : ℕ) → Represents P a → ((k : ℕ) → R k → P k) → ((k : ℕ) → P k → R k) → Represents R a

-- the number of the lengths of two kinds
abbrev pub Joins : Measure → (ℕ → ℕ → ℕ) → Type 1
Joins Represents join = (P Q R : ℕ → Type 0) (a b : ℕ) → Represents P a → Represents Q b → ((k : ℕ) → R k → P k ⊎ Q k) → ((k : ℕ) → P k → R k) → ((k : ℕ) → Q k → R k) → Represents R (join a b)

-- 0 is the number of no lengths
abbrev pub HasNone : Measure → Type 1
HasNone Represents = (P : ℕ → Type 0) → ((k : ℕ) → P k → ⊥) → Represents P 0

-- the number of a place at a node, by those below it
abbrev pub Goes : Measure → (Transition → ℕ → (ℕ → ℕ) → ℕ → ℕ) → Type 1
Goes Represents place =
    (words : List ℕ) (rules : List Transition) (E : ℕ → ℕ → Type 0) (n i held : ℕ) (row : ℕ → ℕ) → ((j : ℕ) → Represents (Below (holds words) rules E j n) (row j))
    → (r : Transition) → slice_get rules i ≡ Some r → is_set held r.atom ≡ holds words r.atom n → Represents (AcceptedLengthFrom (holds words) rules E i n) (place r held row (length rules))
