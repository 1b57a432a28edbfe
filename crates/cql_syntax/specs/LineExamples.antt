-- The values of lines, and the nodes at which the filter of the move holds. In the opening White is to move at the nodes 0 and 2, and Black
-- at 1 and 3.
use Rattle.std.specs.Prelude.{◌≡◌, ℕ, Bool, true, false, List, [], ◌∷◌, Option, Some, None, ℤ, pos}
use Rattle.cql_syntax.specs.Samples.{all_of, main_of, in_passing, promoting, passing, at, on, anywhere, parts, worked, truth}
use Rattle.cql_syntax.specs.Trees.{FilterTree, FormTree, plain, line, path, played, move_of, left_out, written, no_parts, more_parts, group}
use Rattle.cql_syntax.specs.declared.extents.Extent.TheVariants.{Any, Within}
use Rattle.cql_syntax.specs.declared.leaves.Mark.{Mark}
use Rattle.cql_syntax.specs.declared.leaves.Mark.TheVariants.{Once, Star, Plus, Maybe, Times}
use Rattle.cql_syntax.specs.declared.leaves.Plain.TheVariants.{Check, Wtm, Btm, Variation}

abbrev wtm : FilterTree
wtm = at (plain Wtm)

abbrev btm : FilterTree
btm = at (plain Btm)

abbrev check : FilterTree
check = at (plain Check)

-- a king, which every node's board has
abbrev king : FilterTree
king = anywhere 0

abbrev down : List (FilterTree × Mark) → ℕ → Option ℤ
down cs n = worked all_of (line (path false false Any (parts cs))) n

abbrev up : List (FilterTree × Mark) → ℕ → Option ℤ
up cs n = worked all_of (line (path true false Any (parts cs))) n

abbrev primary : (back : Bool) → List (FilterTree × Mark) → ℕ → Option ℤ
primary back cs n = worked all_of (line (path back true Any (parts cs))) n

abbrev within : ℕ → ℕ → ℕ → Option ℤ
within least most n = worked all_of (line (path false false (Within least most) (parts ((king, Star) ∷ [])))) n

-- White to move, then Black, as a group
abbrev turns : Mark → FormTree
turns mark = line (path false false Any (more_parts (group (parts ((wtm, Once) ∷ (btm, Once) ∷ []))) mark no_parts))

pub record LineExamples : Type 0 where
  pub one_node : down ((wtm, Once) ∷ []) 0 ≡ Some (pos 1)
  pub no_node : down ((wtm, Once) ∷ []) 1 ≡ None
  pub three_nodes : down ((wtm, Once) ∷ (btm, Once) ∷ (wtm, Once) ∷ []) 0 ≡ Some (pos 3)
  pub too_short_a_game : down ((btm, Once) ∷ (wtm, Once) ∷ (btm, Once) ∷ []) 1 ≡ None
  pub through_a_variation : down ((wtm, Once) ∷ (at (plain Variation), Once) ∷ []) 0 ≡ Some (pos 2)
  pub not_through_a_variation : primary false ((wtm, Once) ∷ (at (plain Variation), Once) ∷ []) 0 ≡ None
  pub searched_tree_alone :
      worked main_of (line (path false false Any (parts ((wtm, Once) ∷ (at (plain Variation), Once) ∷ [])))) 0 ≡ None
  pub upwards : up ((wtm, Once) ∷ (btm, Once) ∷ (wtm, Once) ∷ []) 2 ≡ Some (pos 3)
  pub up_from_a_variation : up ((king, Star) ∷ []) 3 ≡ Some (pos 2)
  pub not_upwards : up ((wtm, Once) ∷ (btm, Once) ∷ []) 0 ≡ None
  pub up_by_first_children : primary true ((king, Star) ∷ []) 2 ≡ Some (pos 3)
  pub not_up_from_a_variation : primary true ((king, Star) ∷ []) 3 ≡ Some (pos 1)
  pub any_number : down ((king, Star) ∷ []) 0 ≡ Some (pos 3)
  pub repetition_gives_back : down ((king, Star) ∷ (king, Once) ∷ []) 0 ≡ Some (pos 3)
  pub empty_path_is_none : down ((check, Star) ∷ []) 0 ≡ None
  pub at_least_once : down ((king, Plus) ∷ []) 0 ≡ Some (pos 3)
  pub not_once : down ((check, Plus) ∷ []) 0 ≡ None
  pub perhaps : down ((wtm, Maybe) ∷ (btm, Once) ∷ []) 0 ≡ Some (pos 2)
  pub perhaps_not : down ((wtm, Maybe) ∷ (btm, Once) ∷ []) 1 ≡ Some (pos 1)
  pub at_most_once : down ((king, Maybe) ∷ []) 0 ≡ Some (pos 1)
  pub exactly_twice : down ((king, Times 2 2) ∷ []) 0 ≡ Some (pos 2)
  pub not_four_times : down ((king, Times 4 9) ∷ []) 0 ≡ None
  pub from_more_to_less : down ((king, Times 2 1) ∷ []) 0 ≡ None
  pub no_time : down ((check, Times 0 0) ∷ []) 0 ≡ None
  pub group : worked all_of (turns Plus) 0 ≡ Some (pos 2)
  pub group_twice : worked all_of (turns (Times 2 2)) 0 ≡ None
  pub of_allowed_length : within 2 2 0 ≡ Some (pos 2)
  pub of_no_allowed_length : within 4 5 0 ≡ None
  pub of_no_length : within 3 2 0 ≡ None

abbrev from : FilterTree → FormTree
from f = played (move_of (written f) left_out left_out left_out)

abbrev to : FilterTree → FormTree
to f = played (move_of left_out (written f) left_out left_out)

abbrev capture : FilterTree → FormTree
capture f = played (move_of left_out left_out (written f) left_out)

abbrev promote : FilterTree → FormTree
promote f = played (move_of left_out left_out left_out (written f))

abbrev any_move : FormTree
any_move = played (move_of left_out left_out left_out left_out)

pub record MoveExamples : Type 0 where
  pub moved : truth all_of any_move 1 ≡ true
  pub nothing_moved_to_the_root : truth all_of any_move 0 ≡ false
  pub passed : truth passing any_move 1 ≡ false
  pub pawn_moved : truth all_of (from (anywhere 5)) 1 ≡ true
  pub left_at_the_parent : truth all_of (from (on (5 ∷ []) (12 ∷ []))) 1 ≡ true
  pub did_not_come_from_e4 : truth all_of (from (on (5 ∷ []) (28 ∷ []))) 1 ≡ false
  pub to_e4 : truth all_of (to (on (5 ∷ []) (28 ∷ []))) 1 ≡ true
  pub not_to_e2 : truth all_of (to (on (5 ∷ []) (12 ∷ []))) 1 ≡ false
  pub took_in_passing : truth in_passing (capture (on (11 ∷ []) (35 ∷ []))) 1 ≡ true
  pub took_not_at_the_goal : truth in_passing (capture (on (5 ∷ 11 ∷ 12 ∷ []) (43 ∷ []))) 1 ≡ false
  pub took_nothing : truth all_of (capture (on (5 ∷ 12 ∷ []) (12 ∷ 28 ∷ []))) 1 ≡ false
  pub promoted : truth promoting (promote (anywhere 1)) 1 ≡ true
  pub promoted_to_no_rook : truth promoting (promote (anywhere 2)) 1 ≡ false
  pub did_not_promote : truth all_of (promote (anywhere 5)) 1 ≡ false
