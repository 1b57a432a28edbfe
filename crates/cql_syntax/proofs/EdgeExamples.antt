-- The rows, by computation.
use Rattle.std.proofs.Common.{refl}
use Rattle.cq_geometry.specs.Squares as board
use Rattle.cq_geometry.specs.Lines as lines
use Rattle.cq_position.specs.Attacks as attack
use Rattle.cq_symmetry.specs.Images.{image, mask_of, changes_light}
use Rattle.cql_syntax.specs.Contexts.{designator_image}
use Rattle.cql_syntax.specs.EdgeExamples.{FitExamples, ExchangeExamples, EdgeExamples}
use Rattle.cql_syntax.specs.Meaning.{value, fits}

pub fit_rows : FitExamples
unfolding value fits designator_image image mask_of board.squares
fit_rows = record {
  move = refl;
  move_of_nothing = refl;
  origin_off = refl;
  goal_off = refl;
  taken_off = refl;
  promoted_off = refl;
  line_of_both = refl;
  part_off = refl;
  group_off = refl;
  sum = refl;
  first_term_off = refl;
  second_term_off = refl;
  choice = refl;
  condition_off = refl;
  then_off = refl;
  else_off = refl;
  each_square = refl;
  squares_off = refl;
  asked_off = refl;
}

pub exchange_rows : ExchangeExamples
unfolding value fits designator_image image mask_of changes_light board.squares
exchange_rows = record {
  other_player = refl;
  not_the_player = refl;
  either_player = refl;
  family_of_players = refl;
  empty_square = refl;
  any_man = refl;
  white_men = refl;
  black_men = refl;
  ranks_to_files = refl;
  files_to_ranks = refl;
  whole_file_stays = refl;
}

pub edge_rows : EdgeExamples
unfolding value designator_image board.squares attack.attacks lines.between_squares
edge_rows = record {
  one_rating = refl;
  not_the_other_rating = refl;
  year_alone = refl;
  year_of_three_digits = refl;
  year_of_few_digits = refl;
  unknown_year = refl;
  inner_name = refl;
  not_the_outer = refl;
  sum_in_range = refl;
  sum_out_of_range = refl;
  sum_back_in_range = refl;
  sum_in_range_at_each_term = refl;
  any_position = refl;
  no_position = refl;
  any_squares = refl;
  greatest_of_any = refl;
  greatest_of_none = refl;
}
