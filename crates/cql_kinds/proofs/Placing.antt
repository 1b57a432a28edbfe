-- The invariant of a loop over the parts of a line: their places.
use Rattle.std.proofs.Common.{◌≡◌, ℕ, ◌+◌, ◌≤◌, min}

-- the total so far, the places of the parts that are left, and the places of all of them
pub record IsPartOf (total rest whole : ℕ) : Type 0 where
  pub bounded : total ≤ 65
  pub joined : min (total + rest) 65 ≡ min whole 65
