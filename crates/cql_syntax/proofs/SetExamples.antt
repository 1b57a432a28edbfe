-- The rows of sets, by computation.
use Rattle.std.proofs.Common.{refl}
use Rattle.cq_geometry.specs.Squares as board
use Rattle.cq_geometry.specs.Lines as lines
use Rattle.cq_position.specs.Attacks as attack
use Rattle.cql_syntax.specs.Contexts.{designator_image}
use Rattle.cql_syntax.specs.Meaning.{value}
use Rattle.cql_syntax.specs.SetExamples.{SetExamples, DirectionExamples}

pub set_rows : SetExamples
unfolding value designator_image board.squares attack.attacks lines.between_squares
set_rows = record {
  king = refl;
  no_king = refl;
  empty_squares = refl;
  king_or_queen = refl;
  named = refl;
  inner_hides_outer = refl;
  unnamed = refl;
  complement_of_complement = refl;
  complement_of_all = refl;
  union = refl;
  union_of_none = refl;
  intersection = refl;
  no_intersection = refl;
  attacks = refl;
  no_attacks = refl;
  attacked_by = refl;
  not_attacked_by = refl;
  between = refl;
  between_none = refl;
  light = refl;
  not_light = refl;
  dark = refl;
  not_dark = refl;
}

pub direction_rows : DirectionExamples
unfolding value designator_image board.squares
direction_rows = record {
  up = refl;
  not_up = refl;
  down = refl;
  not_down = refl;
  left = refl;
  not_left = refl;
  right = refl;
  not_right = refl;
  northeast = refl;
  not_northeast = refl;
  northwest = refl;
  not_northwest = refl;
  southeast = refl;
  not_southeast = refl;
  southwest = refl;
  not_southwest = refl;
  diagonal = refl;
  not_diagonal = refl;
  orthogonal = refl;
  not_orthogonal = refl;
  any_direction = refl;
  no_direction = refl;
  no_step = refl;
  all_steps = refl;
  from_more_to_less = refl;
}
