-- The rows, by computation.
use Rattle.std.proofs.Common.{refl}
use Rattle.cq_geometry.specs.Squares as board
use Rattle.cq_geometry.specs.Lines as lines
use Rattle.cq_position.specs.Attacks as attack
use Rattle.cq_position.specs.Games as games
use Rattle.cq_position.specs.Legal as legal
use Rattle.cq_position.specs.Legality as legality
use Rattle.cql_syntax.specs.Contexts.{designator_image}
use Rattle.cql_syntax.specs.Meaning.{value}
use Rattle.cql_syntax.specs.PositionExamples.{WordExamples, HeaderExamples, LogicExamples, TreeExamples}

pub word_rows : WordExamples
unfolding value designator_image board.squares games.way_up games.first_child games.children games.searched attack.attacks attack.is_attacked attack.in_check lines.between_squares legality.legal_test legality.has_legal_move legal.is_pseudo_legal legal.reaches legal.after
word_rows = record {
  check = refl;
  no_check = refl;
  mate = refl;
  no_mate = refl;
  stalemate = refl;
  no_stalemate = refl;
  white_to_move = refl;
  not_white_to_move = refl;
  black_to_move = refl;
  not_black_to_move = refl;
  initial = refl;
  not_initial = refl;
  terminal = refl;
  not_terminal = refl;
  on_main_line = refl;
  not_on_main_line = refl;
  in_variation = refl;
  not_in_variation = refl;
  has_comment = refl;
  has_no_comment = refl;
}

pub header_rows : HeaderExamples
unfolding value designator_image board.squares games.way_up games.first_child games.children games.searched attack.attacks attack.is_attacked attack.in_check lines.between_squares legality.legal_test legality.has_legal_move legal.is_pseudo_legal legal.reaches legal.after
header_rows = record {
  result = refl;
  other_results = refl;
  unfinished = refl;
  not_drawn = refl;
  player = refl;
  not_player = refl;
  white_player = refl;
  not_white_player = refl;
  black_player = refl;
  not_black_player = refl;
  event = refl;
  not_event = refl;
  site = refl;
  not_site = refl;
  empty_text = refl;
  missing_tag = refl;
}

pub logic_rows : LogicExamples
unfolding value designator_image board.squares games.way_up games.first_child games.children games.searched attack.attacks attack.is_attacked attack.in_check lines.between_squares legality.legal_test legality.has_legal_move legal.is_pseudo_legal legal.reaches legal.after
logic_rows = record {
  negated = refl;
  not_negated = refl;
  one_holds = refl;
  none_of_none_holds = refl;
  both_hold = refl;
  one_fails = refl;
  items_hold = refl;
  item_fails = refl;
  then_holds = refl;
  else_fails = refl;
  some_square = refl;
  no_square = refl;
  every_square = refl;
  not_every_square = refl;
  every_one_of_none = refl;
  comment_holds = refl;
}

pub tree_rows : TreeExamples
unfolding value designator_image board.squares games.way_up games.first_child games.children games.searched attack.attacks attack.is_attacked attack.in_check lines.between_squares legality.legal_test legality.has_legal_move legal.is_pseudo_legal legal.reaches legal.after
tree_rows = record {
  finds_below = refl;
  finds_itself = refl;
  does_not_find_beside = refl;
  finds_in_searched_tree_alone = refl;
  finds_above = refl;
  finds_itself_above = refl;
  does_not_find_above = refl;
  child = refl;
  no_grandchild = refl;
  no_child_outside_of_searched_tree = refl;
  parent = refl;
  no_grandparent = refl;
  root_has_no_parent = refl;
}
