-- A mapping as plain values.
use Rattle.std.specs.Prelude.{◌≡◌, ◌⊎◌, ◌≤◌, ℕ, ℤ, pos, negsuc, ◌≤ℤ◌, Bool, false}

-- the number of a symmetry, the exchange of colours, and a shift by so many files and ranks
pub record PlainMapping : Type 0 where
  pub symmetry : ℕ
  pub exchange : Bool
  pub east : ℤ
  pub north : ℤ

-- a number from -7 to 7
abbrev pub IsOnBoardStep : ℤ → Type 0
IsOnBoardStep n = (negsuc 6 ≤ℤ n) × (n ≤ℤ pos 7)

-- a mapping without a shift
abbrev pub StandsStill : PlainMapping → Type 0
StandsStill m = (m.east ≡ pos 0) × (m.north ≡ pos 0)

-- a mapping with nothing but a shift
abbrev pub OnlyShifts : PlainMapping → Type 0
OnlyShifts m = (m.symmetry ≡ 1) × (m.exchange ≡ false)

-- the invariant of every mapping
pub record IsProper (m : PlainMapping) : Type 0 where
  pub at_least_one : 1 ≤ m.symmetry
  pub at_most_eight : m.symmetry ≤ 8
  pub sideways : IsOnBoardStep m.east
  pub upwards : IsOnBoardStep m.north
  pub shifts_alone : StandsStill m ⊎ OnlyShifts m
