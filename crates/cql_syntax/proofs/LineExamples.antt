-- The rows, by computation.
use Rattle.std.proofs.Common.{refl}
use Rattle.cq_geometry.specs.Squares as board
use Rattle.cq_geometry.specs.Lines as lines
use Rattle.cq_position.specs.Attacks as attack
use Rattle.cq_position.specs.Games as games
use Rattle.cq_position.specs.Led as led
use Rattle.cq_position.specs.Legal as legal
use Rattle.cq_position.specs.Search as search
use Rattle.cql_syntax.specs.Contexts.{designator_image}
use Rattle.cql_syntax.specs.Meaning.{value}
use Rattle.cql_syntax.specs.LineExamples.{LineExamples, MoveExamples}

pub line_rows : LineExamples
unfolding value designator_image board.squares games.way_up games.first_child games.children games.searched search.paths attack.attacks attack.is_attacked attack.in_check lines.between_squares legal.after legal.after_pass led.led
line_rows = record {
  one_node = refl;
  no_node = refl;
  three_nodes = refl;
  too_short_a_game = refl;
  through_a_variation = refl;
  not_through_a_variation = refl;
  searched_tree_alone = refl;
  upwards = refl;
  up_from_a_variation = refl;
  not_upwards = refl;
  up_by_first_children = refl;
  not_up_from_a_variation = refl;
  any_number = refl;
  repetition_gives_back = refl;
  empty_path_is_none = refl;
  at_least_once = refl;
  not_once = refl;
  perhaps = refl;
  perhaps_not = refl;
  at_most_once = refl;
  exactly_twice = refl;
  not_four_times = refl;
  from_more_to_less = refl;
  no_time = refl;
  group = refl;
  group_twice = refl;
  of_allowed_length = refl;
  of_no_allowed_length = refl;
  of_no_length = refl;
}

pub move_rows : MoveExamples
unfolding value designator_image board.squares games.way_up games.first_child games.children games.searched search.paths attack.attacks attack.is_attacked attack.in_check lines.between_squares legal.after legal.after_pass led.led
move_rows = record {
  moved = refl;
  nothing_moved_to_the_root = refl;
  passed = refl;
  pawn_moved = refl;
  left_at_the_parent = refl;
  did_not_come_from_e4 = refl;
  to_e4 = refl;
  not_to_e2 = refl;
  took_in_passing = refl;
  took_not_at_the_goal = refl;
  took_nothing = refl;
  promoted = refl;
  promoted_to_no_rook = refl;
  did_not_promote = refl;
}
