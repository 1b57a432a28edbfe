-- The values of families: the squares of their members' images, and the designators that drop out of them.
use Rattle.std.specs.Prelude.{◌≡◌, ℕ, Bool, true, false, List, [], ◌∷◌, ◌^◌, Some, None, pos, negsuc, length}
use Rattle.cq_position.specs.declared.men.Man.TheVariants.{K, BlackK}
use Rattle.cq_position.specs.declared.men.Side.TheVariants.{White}
use Rattle.cq_position.specs.Search.{SearchedTree}
use Rattle.cq_symmetry.specs.Families.{members, turned, shifted, exchanged}
use Rattle.cq_symmetry.specs.declared.families.Family.{Family}
use Rattle.cq_symmetry.specs.declared.families.Family.TheVariants.{Flip, Rotate90, FlipVertical, FlipHorizontal, FlipColor, Shift, ShiftHorizontal, ShiftVertical}
use Rattle.cql_syntax.specs.Contexts.{Context}
use Rattle.cql_syntax.specs.Meaning.{fits, fitting}
use Rattle.cql_syntax.specs.Samples.{all_of, alone, bare, at, on, any_on, filters, found, truth, worked}
use Rattle.cql_syntax.specs.Trees.{FilterTree, designator, plain, outcome, elo, unary, direction, chain, transform}
use Rattle.cql_syntax.specs.declared.leaves.Chain.TheVariants.{Union}
use Rattle.cql_syntax.specs.declared.leaves.Of.TheVariants.{Black as OfBlack}
use Rattle.cql_syntax.specs.declared.leaves.Outcome.TheVariants.{Black as BlackWins, Draw}
use Rattle.cql_syntax.specs.declared.leaves.Plain.TheVariants.{Btm, Year}
use Rattle.cql_syntax.specs.declared.leaves.Unary.TheVariants.{Not, Light, Dark}
use Rattle.cql_syntax.specs.declared.leaves.Way.TheVariants.{Up}

-- White's king on b3, Black's on h8
abbrev pub kings : SearchedTree
kings = alone (bare White None ((17, K) ∷ (63, BlackK) ∷ []))

-- the squares at which a family of the king on this square finds White's king
abbrev king_by : Family → ℕ → List ℕ
king_by family s = found kings (transform family (on (0 ∷ []) (s ∷ []))) 0

-- the number of a family's members that map this square onto the board
abbrev kept_by : Family → ℕ → ℕ
kept_by family s = length (fitting [] (members family) (on (0 ∷ []) (s ∷ [])))

-- true if White's king on a1 has an image in a context
abbrev stays : Context → Bool
stays g = fits g (on (0 ∷ []) (0 ∷ []))

pub record FamilyExamples : Type 0 where
  pub flip : king_by Flip 10 ≡ 17 ∷ []
  pub not_flip : king_by Flip 8 ≡ []
  pub rotate : king_by Rotate90 13 ≡ 17 ∷ []
  pub not_rotate : king_by Rotate90 10 ≡ []
  pub flip_vertical : king_by FlipVertical 41 ≡ 17 ∷ []
  pub not_flip_vertical : king_by FlipVertical 22 ≡ []
  pub flip_horizontal : king_by FlipHorizontal 22 ≡ 17 ∷ []
  pub not_flip_horizontal : king_by FlipHorizontal 41 ≡ []
  pub flip_color : found kings (transform FlipColor (on (6 ∷ []) (41 ∷ []))) 0 ≡ 17 ∷ []
  pub not_flip_color : king_by FlipColor 41 ≡ []
  pub shift : king_by Shift 63 ≡ 17 ∷ []
  pub not_shift : found kings (transform Shift (on (1 ∷ []) (63 ∷ []))) 0 ≡ []
  pub shift_horizontal : king_by ShiftHorizontal 23 ≡ 17 ∷ []
  pub not_shift_horizontal : king_by ShiftHorizontal 9 ≡ []
  pub shift_vertical : king_by ShiftVertical 57 ≡ 17 ∷ []
  pub not_shift_vertical : king_by ShiftVertical 16 ≡ []

-- White's king on b3, or a3 with any man or none. A shift to the left takes a3 off the board, so that the filter doesn't fit. As an empty
-- set it would make `not` hold.
abbrev king_or_a3 : FilterTree
king_or_a3 = at (chain Union (filters (on (0 ∷ []) (17 ∷ []) ∷ any_on 16 ∷ [])))

-- A designator drops out of those members of a family that map all its squares off the board. The symmetries alone map none off, but before
-- a shift they decide.
pub record DropExamples : Type 0 where
  pub shift : kept_by Shift 0 ≡ 64
  pub shift_horizontal : kept_by ShiftHorizontal 0 ≡ 8
  pub shift_vertical : kept_by ShiftVertical 0 ≡ 8
  pub flip : kept_by Flip 0 ≡ 8
  pub kept : stays (turned 1 ∷ shifted (pos 1) (pos 0) ∷ []) ≡ true
  pub flipped_off : stays (turned 8 ∷ shifted (pos 1) (pos 0) ∷ []) ≡ false
  pub rotated_off : stays (turned 6 ∷ shifted (pos 1) (pos 0) ∷ []) ≡ false
  pub flipped_up_and_off : stays (turned 3 ∷ shifted (pos 0) (pos 1) ∷ []) ≡ false
  pub mirrored_off : stays (turned 2 ∷ shifted (pos 1) (pos 0) ∷ []) ≡ false
  pub exchanged_off : stays (exchanged ∷ shifted (pos 0) (pos 1) ∷ []) ≡ false
  pub never_back : stays (shifted (negsuc 0) (pos 0) ∷ shifted (pos 1) (pos 0) ∷ []) ≡ false
  pub not_fooled : truth kings (transform ShiftHorizontal (at (unary Not king_or_a3))) 0 ≡ false

-- whole ranks and whole files don't move along themselves
abbrev ranks_of_men : FilterTree
ranks_of_men = at (designator (record { men = 2 ^ 0; part = record { squares = 16711680; whole_ranks = true; whole_files = false } }))

pub record ImageExamples : Type 0 where
  pub whole_rank_stays : truth kings (transform ShiftHorizontal (at (unary Not ranks_of_men))) 0 ≡ false
  pub inner_family_first : found kings (transform ShiftHorizontal (at (transform Flip (on (0 ∷ []) (2 ∷ []))))) 0 ≡ 17 ∷ []
  pub outer_family_last : found kings (transform Flip (at (transform ShiftHorizontal (on (0 ∷ []) (2 ∷ []))))) 0 ≡ []
  pub mirrored_light : truth kings (transform FlipHorizontal (at (unary Light (on (0 ∷ []) (22 ∷ []))))) 0 ≡ false
  pub mirrored_dark : truth kings (transform FlipHorizontal (at (unary Dark (on (0 ∷ []) (22 ∷ []))))) 0 ≡ true
  pub turned_direction : found kings (transform Rotate90 (at (direction Up 1 1 (on (0 ∷ []) (13 ∷ 17 ∷ []))))) 0 ≡ 18 ∷ 25 ∷ []
  pub exchanged_turn : truth kings (transform FlipColor (at (plain Btm))) 0 ≡ true
  pub exchanged_result : truth all_of (transform FlipColor (at (outcome BlackWins))) 0 ≡ true
  pub drawn_is_drawn : truth all_of (transform FlipColor (at (outcome Draw))) 0 ≡ false
  pub greater_of_both : worked all_of (transform FlipColor (at (elo OfBlack))) 0 ≡ Some (pos 2700)
  pub of_none : worked kings (transform FlipColor (at (plain Year))) 0 ≡ None
