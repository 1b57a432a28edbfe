-- The flat forms of small filters.
use Rattle.std.specs.Prelude.{◌≡◌, ℕ, false, [], ◌∷◌, pos}
use Rattle.cq_symmetry.specs.Families.{turned, shifted}
use Rattle.cq_symmetry.specs.declared.families.Family.TheVariants.{Flip, Rotate90, FlipVertical, FlipHorizontal, FlipColor, ShiftHorizontal}
use Rattle.cql_syntax.specs.Flat.{flat}
use Rattle.cql_syntax.specs.Samples.{at, on, anywhere, filters, parts}
use Rattle.cql_syntax.specs.Trees.{FilterTree, FormTree, plain, tagged, unary, direction, transform, any, line, path, played, move_of, left_out, written}
use Rattle.cql_syntax.specs.declared.extents.Extent.TheVariants.{Within}
use Rattle.cql_syntax.specs.declared.leaves.Field.TheVariants.{Player}
use Rattle.cql_syntax.specs.declared.leaves.Kind.TheVariants.{Position, Set, Number}
use Rattle.cql_syntax.specs.declared.leaves.Mark.TheVariants.{Once}
use Rattle.cql_syntax.specs.declared.leaves.Of.TheVariants.{White, Black}
use Rattle.cql_syntax.specs.declared.leaves.Plain.TheVariants.{Check, Wtm, Btm}
use Rattle.cql_syntax.specs.declared.leaves.Unary.TheVariants.{Light, Dark}
use Rattle.cql_syntax.specs.declared.leaves.Way.TheVariants.{Up, Down, Left, Right}

-- White's king on a square
abbrev king : ℕ → FilterTree
king s = on (0 ∷ []) (s ∷ [])

-- a line of the lengths from 2 to 3 down to nodes with one of the sides to move
abbrev line_to : FormTree → FilterTree
line_to side = at (line (path false false (Within 2 3) (parts ((at side, Once) ∷ []))))

-- a move of a man from anywhere
abbrev move_from : ℕ → FilterTree
move_from man = at (played (move_of (written (anywhere man)) left_out left_out left_out))

-- a1, h1, a8 and h8 are the squares 0, 7, 56 and 63
pub record FlatExamples : Type 0 where
  pub flip : flat [] (at (transform Flip (king 0))) ≡ at (any Set (filters (king 0 ∷ king 7 ∷ king 56 ∷ king 63 ∷ [])))
  pub rotate : flat [] (at (transform Rotate90 (king 0))) ≡ at (any Set (filters (king 0 ∷ king 56 ∷ king 63 ∷ king 7 ∷ [])))
  pub flip_color : flat [] (at (transform FlipColor (king 0))) ≡ at (any Set (filters (king 0 ∷ on (6 ∷ []) (56 ∷ []) ∷ [])))
  pub equal_once : flat [] (at (transform FlipVertical (at (plain Check)))) ≡ at (any Position (filters (at (plain Check) ∷ [])))
  pub only_fitting : flat [] (at (transform ShiftHorizontal (king 6)))
      ≡ at (any Set (filters (king 0 ∷ king 1 ∷ king 2 ∷ king 3 ∷ king 4 ∷ king 5 ∷ king 6 ∷ king 7 ∷ [])))
  pub light : flat [] (at (transform FlipHorizontal (at (unary Light (king 1)))))
      ≡ at (any Set (filters (at (unary Light (king 1)) ∷ at (unary Dark (king 6)) ∷ [])))
  pub turned_up : flat [] (at (transform Rotate90 (at (direction Up 1 2 (king 0)))))
      ≡ at (any Set (filters (at (direction Up 1 2 (king 0)) ∷ at (direction Right 1 2 (king 56))
      ∷ at (direction Down 1 2 (king 63)) ∷ at (direction Left 1 2 (king 7)) ∷ [])))
  pub line : flat [] (at (transform FlipColor (line_to (plain Wtm))))
      ≡ at (any Number (filters (line_to (plain Wtm) ∷ line_to (plain Btm) ∷ [])))
  pub moved : flat [] (at (transform FlipColor (move_from 4))) ≡ at (any Position (filters (move_from 4 ∷ move_from 10 ∷ [])))
  pub player : flat [] (at (transform FlipColor (at (tagged (Player White) []))))
      ≡ at (any Position (filters (at (tagged (Player White) []) ∷ at (tagged (Player Black) []) ∷ [])))
  pub innermost_first : flat (shifted (pos 1) (pos 0) ∷ turned 2 ∷ []) (king 0) ≡ king 6
  pub nested : flat [] (at (transform FlipVertical (at (transform FlipHorizontal (king 0)))))
      ≡ at (any Set (filters (at (any Set (filters (king 0 ∷ king 7 ∷ []))) ∷ at (any Set (filters (king 56 ∷ king 63 ∷ []))) ∷ [])))
