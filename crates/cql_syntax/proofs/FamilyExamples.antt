-- The rows, by computation.
use Rattle.std.proofs.Common.{◌≡◌, ℕ, [], ◌∷◌, length, false, refl}
use Rattle.cq_geometry.specs.Squares as board
use Rattle.cq_symmetry.specs.Families.{members}
use Rattle.cq_symmetry.specs.Images.{image, mask_of, image_compass, changes_light}
use Rattle.cq_symmetry.specs.declared.families.Family.{Family}
use Rattle.cq_symmetry.specs.declared.families.Family.TheVariants.{Flip, Rotate90, FlipVertical, FlipHorizontal, FlipColor, Shift, ShiftHorizontal, ShiftVertical}
use Rattle.cql_syntax.proofs.Images.{image_from, image_in, kept_are, family_finds, families_find}
use Rattle.cql_syntax.specs.Contexts.{designator_image}
use Rattle.cql_syntax.specs.Meaning.{value, fits, fitting}
use Rattle.cql_syntax.specs.FamilyExamples.{FamilyExamples, DropExamples, ImageExamples, kings}
use Rattle.cql_syntax.specs.Samples.{at, bits_of, found, on}
use Rattle.cql_syntax.specs.Trees.{transform}
use Rattle.cql_syntax.specs.declared.leaves.Designator.{Designator}

-- a man by its number on a square
abbrev man_on : ℕ → ℕ → Designator
man_on man s = record { men = bits_of (man ∷ []); part = record { squares = bits_of (s ∷ []); whole_ranks = false; whole_files = false } }

-- Each row of a designator is computed by the squares of its part alone.
pub family_rows : FamilyExamples
unfolding image_in image_from mask_of board.squares
family_rows = record {
  flip = family_finds kings Flip (man_on 0 10) 0 (17 ∷ []) refl;
  not_flip = family_finds kings Flip (man_on 0 8) 0 [] refl;
  rotate = family_finds kings Rotate90 (man_on 0 13) 0 (17 ∷ []) refl;
  not_rotate = family_finds kings Rotate90 (man_on 0 10) 0 [] refl;
  flip_vertical = family_finds kings FlipVertical (man_on 0 41) 0 (17 ∷ []) refl;
  not_flip_vertical = family_finds kings FlipVertical (man_on 0 22) 0 [] refl;
  flip_horizontal = family_finds kings FlipHorizontal (man_on 0 22) 0 (17 ∷ []) refl;
  not_flip_horizontal = family_finds kings FlipHorizontal (man_on 0 41) 0 [] refl;
  flip_color = family_finds kings FlipColor (man_on 6 41) 0 (17 ∷ []) refl;
  not_flip_color = family_finds kings FlipColor (man_on 0 41) 0 [] refl;
  shift = family_finds kings Shift (man_on 0 63) 0 (17 ∷ []) refl;
  not_shift = family_finds kings Shift (man_on 1 63) 0 [] refl;
  shift_horizontal = family_finds kings ShiftHorizontal (man_on 0 23) 0 (17 ∷ []) refl;
  not_shift_horizontal = family_finds kings ShiftHorizontal (man_on 0 9) 0 [] refl;
  shift_vertical = family_finds kings ShiftVertical (man_on 0 57) 0 (17 ∷ []) refl;
  not_shift_vertical = family_finds kings ShiftVertical (man_on 0 16) 0 [] refl;
}

-- the number of a family's members that keep White's king on a1, likewise
abbrev kept_by : Family → ℕ
kept_by family = length (fitting [] (members family) (on (0 ∷ []) (0 ∷ [])))

shifts_kept : kept_by Shift ≡ 64
unfolding image_in image_from mask_of board.squares
shifts_kept = kept_are Shift (man_on 0 0) 64 refl

horizontal_shifts_kept : kept_by ShiftHorizontal ≡ 8
unfolding image_in image_from mask_of board.squares
horizontal_shifts_kept = kept_are ShiftHorizontal (man_on 0 0) 8 refl

vertical_shifts_kept : kept_by ShiftVertical ≡ 8
unfolding image_in image_from mask_of board.squares
vertical_shifts_kept = kept_are ShiftVertical (man_on 0 0) 8 refl

flips_kept : kept_by Flip ≡ 8
unfolding image_in image_from mask_of board.squares
flips_kept = kept_are Flip (man_on 0 0) 8 refl

-- families of families, likewise
inner_row : found kings (transform ShiftHorizontal (at (transform Flip (on (0 ∷ []) (2 ∷ []))))) 0 ≡ 17 ∷ []
unfolding image_in image_from mask_of board.squares
inner_row = families_find kings ShiftHorizontal Flip (man_on 0 2) 0 (17 ∷ []) refl

outer_row : found kings (transform Flip (at (transform ShiftHorizontal (on (0 ∷ []) (2 ∷ []))))) 0 ≡ []
unfolding image_in image_from mask_of board.squares
outer_row = families_find kings Flip ShiftHorizontal (man_on 0 2) 0 [] refl

pub drop_rows : DropExamples
unfolding value fits designator_image image mask_of image_compass changes_light board.squares
drop_rows = record {
  shift = shifts_kept;
  shift_horizontal = horizontal_shifts_kept;
  shift_vertical = vertical_shifts_kept;
  flip = flips_kept;
  kept = refl;
  flipped_off = refl;
  rotated_off = refl;
  flipped_up_and_off = refl;
  mirrored_off = refl;
  exchanged_off = refl;
  never_back = refl;
  not_fooled = refl;
}

pub image_rows : ImageExamples
unfolding value fits designator_image image mask_of image_compass changes_light board.squares
image_rows = record {
  whole_rank_stays = refl;
  inner_family_first = inner_row;
  outer_family_last = outer_row;
  mirrored_light = refl;
  mirrored_dark = refl;
  turned_direction = refl;
  exchanged_turn = refl;
  exchanged_result = refl;
  drawn_is_drawn = refl;
  greater_of_both = refl;
  of_none = refl;
}
