-- The rows, by computation.
use Rattle.std.proofs.Common.{refl}
use Rattle.cq_geometry.specs.Squares as board
use Rattle.cq_position.specs.Games as games
use Rattle.cq_position.specs.Legal as legal
use Rattle.cq_position.specs.Search as search
use Rattle.cql_plan.specs.Needs as needs
use Rattle.cql_plan.specs.NeedsExamples.{DesignatorRows, HeaderRows, PartRows, OtherRows}

pub designator_rows : DesignatorRows
unfolding needs.passes needs.one_stands board.squares games.way_up games.first_child games.searched legal.after search.has_man search.has_man_in
designator_rows = record {
  no_queen = refl;
  queen_or_empty = refl;
  king_on_another_square = refl;
  one_of_two_men = refl;
  queen_by_promotion = refl;
  rook_by_no_move = refl;
}

pub header_rows : HeaderRows
unfolding needs.passes needs.one_stands
header_rows = record {
  result = refl;
  other_result = refl;
  player = refl;
  not_black = refl;
  event = refl;
  site = refl;
}

pub part_rows : PartRows
unfolding needs.passes needs.one_stands board.squares games.way_up games.first_child games.searched search.has_man search.has_man_in
part_rows = record {
  and = refl;
  braces = refl;
  intersection = refl;
  or = refl;
  union = refl;
  or_of_none = refl;
  any_position = refl;
  any_set = refl;
  any_number = refl;
  items = refl;
  no_items = refl;
}

pub other_rows : OtherRows
unfolding needs.passes needs.one_stands
other_rows = record {
  denied = refl;
  sought = refl;
  attacking = refl;
  sorted_by = refl;
}
