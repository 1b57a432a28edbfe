-- The meaning of the cells of a row, as the private functions fill them: the greatest of the lengths of a place, or their set as bits.
use Rattle.std.specs.Prelude.{◌≡◌, ℕ, ◌<◌, ◌≤◌, max, Bool, true, false, Option, Some, None, bit_or}
use Rattle.cq_common.specs.Greatest.{IsGreatest}
use Rattle.cql_lines.specs.declared.automaton.Transition.{Transition}
use Rattle.cql_lines.specs.declared.shape.Limits.{Limits}
use Rattle.cql_lines.specs.Internal.DownwardPass.{found}
use Rattle.cql_lines.specs.Internal.Lengths.{IsGreatestOrZero, greatest_in, place_value}
use Rattle.cql_lines.specs.Limits.{longest_limit}
use Rattle.cql_lines.specs.Places.{IsIn}
use Rattle.cql_lines.specs.Internal.LengthSets.{IsSet, Between, union_in, place_set}

-- a number represents the lengths of a kind: as their set, or as the greatest of them
abbrev pub Represents : Bool → (ℕ → Type 0) → ℕ → Type 0
Represents true = IsSet
Represents false = IsGreatestOrZero

-- the number of the lengths of two kinds
abbrev pub both_kinds : Bool → ℕ → ℕ → ℕ
both_kinds true = bit_or
both_kinds false = max

-- the number of a place at a node, by those of the nodes that it is joined to
abbrev pub place_cell : Bool → Transition → ℕ → (ℕ → ℕ) → ℕ → ℕ
place_cell true = place_set
place_cell false = place_value

-- one more than the length is still within the range of a cell
abbrev pub LeavesRoom : Bool → ℕ → Type 0
LeavesRoom true m = Unit {0}
LeavesRoom false m = m < 4294967295

-- rows of sets are for limits of at most `longest_limit`, and rows of greatest lengths for lines without limits
abbrev pub Counts : Bool → Option Limits → Type 0
Counts true (Some e) = e.most ≤ longest_limit
Counts false None = Unit {0}
Counts sets extent = ⊥

-- the greatest length of some places, by their cells
abbrev pub IsGreatestAllowed : Bool → Option Limits → ℕ → (ℕ → ℕ) → ℕ → Option ℕ → Type 0
IsGreatestAllowed true (Some e) mask cells count o = IsGreatest (Between e.least e.most (IsIn (union_in mask cells count))) o
IsGreatestAllowed true None mask cells count o = Unit {0}
IsGreatestAllowed false extent mask cells count o = o ≡ found (greatest_in mask cells count)

-- those of the lengths that count
abbrev pub AllowedLength : Option Limits → (ℕ → Type 0) → ℕ → Type 0
AllowedLength None P = P
AllowedLength (Some e) P = Between e.least e.most P
