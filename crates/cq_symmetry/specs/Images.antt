-- Images of parts and directions under a mapping, by coordinates. Files and ranks count from 0.
use Rattle.std.specs.Prelude.{ℕ, zero, suc, ◌+◌, ◌-◌, ◌*◌, ◌%◌, ◌^◌, Bool, true, false, ◌&&◌, not, ◌==◌, nat_le, if◌then◌else◌, List, [], ◌∷◌, Option, Some, None, ℤ, pos, ◌+ℤ◌, neg_ℤ, int_le, slice_index_or, unwrap_or, find}
use Rattle.std.specs.List.{list_all, list_any}
use Rattle.std.specs.Int.{bit_at}
use Rattle.cq_geometry.specs.declared.compass.Compass.{Compass}
use Rattle.cq_geometry.specs.declared.compass.Compass.TheVariants.{Up, Down, Left, Right, Northeast, Northwest, Southeast, Southwest}
use Rattle.cq_geometry.specs.Directions.{files_of, ranks_of}
use Rattle.cq_geometry.specs.Squares.{file_of, rank_of, square_of, squares}
use Rattle.cq_geometry.specs.Steps.{square_on_board}
use Rattle.cq_symmetry.specs.Mappings.{PlainMapping}
use Rattle.cq_symmetry.specs.declared.parts.SquarePart.{SquarePart}

-- true if a square is in the set that is this number; bit k is the square k
abbrev pub is_in : ℕ → ℕ → Bool
is_in mask square = bit_at mask square == 1

-- the bit of a truth value
abbrev pub bit : Bool → ℕ
bit true = 1
bit false = 0

-- the number whose bits below n are those that pass a test
abbrev pub mask_below : (ℕ → Bool) → ℕ → ℕ
mask_below test zero = 0
mask_below test (suc n) = bit (test n) * 2 ^ n + mask_below test n

-- the set of the squares that pass a test, as such a number
unfoldable pub mask_of : (ℕ → Bool) → ℕ
mask_of test = mask_below test 64

-- The images of a file f and a rank r under the eight symmetries, in the order of their numbers. `back` reverses a file or a rank.
abbrev pub turns : {A : Type 0} → (A → A) → A → A → List (A × A)
turns back f r =
    (f, r)
    ∷ (back f, r)
    ∷ (f, back r)
    ∷ (back f, back r)
    ∷ (r, f)
    ∷ (back r, f)
    ∷ (r, back f)
    ∷ (back r, back f)
    ∷ []

-- the image under the symmetry of a number
abbrev pub turn : {A : Type 0} → (A → A) → ℕ → A → A → A × A
turn back symmetry f r = slice_index_or (turns back f r) (symmetry - 1) (f, r)

-- the image of a square under a symmetry, as a file and a rank
abbrev pub image_place : ℕ → ℕ → ℕ × ℕ
image_place symmetry square = turn (λ n. 7 - n) symmetry (file_of square) (rank_of square)

-- the length of a shift, 0 for a part that it leaves in place
abbrev pub unless : Bool → ℤ → ℤ
unless stays by = if stays then pos 0 else by

-- The image under a mapping of a square of a part, if it is on the board. A shift doesn't move whole ranks sideways, nor whole files up or
-- down.
abbrev pub image_square : PlainMapping → SquarePart → ℕ → Option ℕ
image_square m part square =
    square_on_board
    (pos (image_place m.symmetry square).0 +ℤ unless part.whole_ranks m.east)
    (pos (image_place m.symmetry square).1 +ℤ unless part.whole_files m.north)

-- true if the optional square is this one
abbrev pub is_square : Option ℕ → ℕ → Bool
is_square None square = false
is_square (Some goal) square = goal == square

-- true if the mapping takes a square of the part to the goal
abbrev pub is_image : PlainMapping → SquarePart → ℕ → ℕ → Bool
is_image m part goal square = is_in part.squares square && is_square (image_square m part square) goal

-- true of the symmetries 5 to 8, which make files of ranks and ranks of files
abbrev pub is_transposed : ℕ → Bool
is_transposed symmetry = nat_le 5 symmetry

-- the part, or none if it has no square
abbrev pub part_or_none : SquarePart → Option SquarePart
part_or_none part = if part.squares == 0 then None else Some part

-- The image of a part. Squares that leave the board are dropped, and there is no image if all do. The symmetries that make files of ranks
-- exchange the flags.
unfoldable pub image : PlainMapping → SquarePart → Option SquarePart
image m part = part_or_none (record {
  squares = mask_of (λ goal. list_any (is_image m part goal) squares);
  whole_ranks = if is_transposed m.symmetry then part.whole_files else part.whole_ranks;
  whole_files = if is_transposed m.symmetry then part.whole_ranks else part.whole_files;
})

-- the eight directions
abbrev pub compasses : List Compass
compasses = Up ∷ Down ∷ Left ∷ Right ∷ Northeast ∷ Northwest ∷ Southeast ∷ Southwest ∷ []

-- true if two numbers of steps are equal
abbrev pub same_steps : ℤ → ℤ → Bool
same_steps m n = int_le m n && int_le n m

-- true if a direction goes so many files to the right and so many ranks up
abbrev pub goes : ℤ × ℤ → Compass → Bool
goes step direction = same_steps (files_of direction) step.0 && same_steps (ranks_of direction) step.1

-- The image of a direction: the direction whose step is the image of its step. Only the symmetry changes it.
unfoldable pub image_compass : PlainMapping → Compass → Compass
image_compass m direction =
    unwrap_or (find (goes (turn neg_ℤ m.symmetry (files_of direction) (ranks_of direction))) compasses) direction

-- true if a square is light (FIDE Laws of Chess, article 2.1)
abbrev pub is_light : ℕ → Bool
is_light square = (file_of square + rank_of square) % 2 == 1

-- the image of a square under a symmetry
abbrev pub turned_square : ℕ → ℕ → ℕ
turned_square symmetry square = square_of (image_place symmetry square).0 (image_place symmetry square).1

-- true if one of two squares is light and the other dark
abbrev pub other_color : ℕ → ℕ → Bool
other_color a b = if is_light a then not (is_light b) else is_light b

-- true if the symmetry exchanges light and dark squares; shifts don't count
unfoldable pub changes_light : PlainMapping → Bool
changes_light m = list_all (λ square. other_color square (turned_square m.symmetry square)) squares
