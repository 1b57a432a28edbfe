-- The members of the families, in order.
use Rattle.std.specs.Prelude.{ℕ, ℤ, pos, negsuc, true, false, List, [], ◌∷◌, map, flat_map}
use Rattle.cq_symmetry.specs.Mappings.{PlainMapping}
use Rattle.cq_symmetry.specs.declared.families.Family.{Family}
use Rattle.cq_symmetry.specs.declared.families.Family.TheVariants.{Flip, Rotate90, FlipVertical, FlipHorizontal, FlipColor, Shift, ShiftHorizontal, ShiftVertical}

-- a symmetry alone
abbrev pub turned : ℕ → PlainMapping
turned s = record { symmetry = s; exchange = false; east = pos 0; north = pos 0 }

-- a shift alone
abbrev pub shifted : ℤ → ℤ → PlainMapping
shifted east north = record { symmetry = 1; exchange = false; east = east; north = north }

-- the board upside down with the colours exchanged
abbrev pub exchanged : PlainMapping
exchanged = record { symmetry = 3; exchange = true; east = pos 0; north = pos 0 }

-- the lengths of shifts, from -7 to 7
abbrev pub shift_lengths : List ℤ
shift_lengths = negsuc 6 ∷ negsuc 5 ∷ negsuc 4 ∷ negsuc 3 ∷ negsuc 2 ∷ negsuc 1 ∷ negsuc 0
    ∷ pos 0 ∷ pos 1 ∷ pos 2 ∷ pos 3 ∷ pos 4 ∷ pos 5 ∷ pos 6 ∷ pos 7 ∷ []

-- the members of a family
abbrev pub members : Family → List PlainMapping
members Flip = map turned (1 ∷ 2 ∷ 3 ∷ 4 ∷ 5 ∷ 6 ∷ 7 ∷ 8 ∷ [])
members Rotate90 = map turned (1 ∷ 7 ∷ 4 ∷ 6 ∷ [])
members FlipVertical = map turned (1 ∷ 3 ∷ [])
members FlipHorizontal = map turned (1 ∷ 2 ∷ [])
members FlipColor = turned 1 ∷ exchanged ∷ []
members Shift = flat_map (λ north. map (λ east. shifted east north) shift_lengths) shift_lengths
members ShiftHorizontal = map (λ east. shifted east (pos 0)) shift_lengths
members ShiftVertical = map (λ north. shifted (pos 0) north) shift_lengths
