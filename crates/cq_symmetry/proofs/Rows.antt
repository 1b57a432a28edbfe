-- The members of the families at some of their numbers.
use Rattle.std.proofs.Common.{◌≡◌, Some, pos, negsuc, slice_get, refl}
use Rattle.cq_symmetry.specs.Families.{members, turned, shifted, exchanged}
use Rattle.cq_symmetry.specs.declared.families.Family.TheVariants.{Flip, Rotate90, FlipColor, Shift, ShiftHorizontal, ShiftVertical}

-- shifts go from the bottom row to the top one, and from left to right within a row
first_shift : slice_get (members Shift) 0 ≡ Some (shifted (negsuc 6) (negsuc 6))
first_shift = refl

second_shift : slice_get (members Shift) 1 ≡ Some (shifted (negsuc 5) (negsuc 6))
second_shift = refl

second_row_of_shifts : slice_get (members Shift) 15 ≡ Some (shifted (negsuc 6) (negsuc 5))
second_row_of_shifts = refl

no_shift : slice_get (members Shift) 112 ≡ Some (shifted (pos 0) (pos 0))
no_shift = refl

last_shift : slice_get (members Shift) 224 ≡ Some (shifted (pos 7) (pos 7))
last_shift = refl

last_flip : slice_get (members Flip) 7 ≡ Some (turned 8)
last_flip = refl

second_rotation : slice_get (members Rotate90) 1 ≡ Some (turned 7)
second_rotation = refl

exchange_of_colors : slice_get (members FlipColor) 1 ≡ Some exchanged
exchange_of_colors = refl

shift_left : slice_get (members ShiftHorizontal) 6 ≡ Some (shifted (negsuc 0) (pos 0))
shift_left = refl

shift_up : slice_get (members ShiftVertical) 8 ≡ Some (shifted (pos 0) (pos 1))
shift_up = refl
