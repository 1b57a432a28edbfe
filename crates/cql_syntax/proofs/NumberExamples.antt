-- The rows, by computation.
use Rattle.std.proofs.Common.{refl}
use Rattle.cq_geometry.specs.Squares as board
use Rattle.cq_position.specs.Games as games
use Rattle.cq_position.specs.Legal as legal
use Rattle.cql_syntax.specs.Contexts.{designator_image}
use Rattle.cql_syntax.specs.Meaning.{value}
use Rattle.cql_syntax.specs.NumberExamples.{NumberExamples, ComparisonExamples}

pub number_rows : NumberExamples
unfolding value designator_image board.squares games.way_up games.first_child games.children legal.after
number_rows = record {
  numeral = refl;
  number_of_pawns = refl;
  number_of_no_squares = refl;
  power_of_queen_and_knights = refl;
  power_of_king = refl;
  ply_of_root = refl;
  ply = refl;
  first_move_number = refl;
  move_number = refl;
  depth_of_root = refl;
  depth_of_first_children = refl;
  depth_of_variation = refl;
  year = refl;
  no_year = refl;
  rating_of_white = refl;
  no_rating_of_white = refl;
  rating_of_black = refl;
  no_rating_of_black = refl;
  greater_rating = refl;
  no_rating = refl;
  difference = refl;
  difference_from_none = refl;
  sum_of_nothing = refl;
  product = refl;
  product_out_of_range = refl;
  product_back_in_range = refl;
  greatest = refl;
  greatest_with_none = refl;
  least = refl;
  least_of_nothing = refl;
}

pub comparison_rows : ComparisonExamples
unfolding value designator_image board.squares games.way_up games.first_child games.children legal.after
comparison_rows = record {
  less = refl;
  not_less = refl;
  at_most = refl;
  not_at_most = refl;
  equal = refl;
  not_equal = refl;
  at_least = refl;
  not_at_least = refl;
  greater = refl;
  not_greater = refl;
  none_is_not_equal_to_none = refl;
  sorts_by_value = refl;
  does_not_sort_by_none = refl;
}
