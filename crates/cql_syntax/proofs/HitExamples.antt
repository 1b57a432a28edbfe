-- The rows, by computation.
use Rattle.std.proofs.Common.{refl}
use Rattle.cq_geometry.specs.Squares as board
use Rattle.cq_position.specs.Comments as comments
use Rattle.cq_position.specs.Games as games
use Rattle.cq_position.specs.Legal as legal
use Rattle.cql_syntax.specs.Hits as found
use Rattle.cql_syntax.specs.HitExamples.{HitExamples}
use Rattle.cql_syntax.specs.Meaning.{value}

pub hit_rows : HitExamples
unfolding value board.squares games.way_up games.first_child games.children games.searched legal.after comments.words found.hits found.marks found.marked found.keys
hit_rows = record {
  hits_in_variations = refl;
  hits_on_main_line = refl;
  no_node_at_which_all_items_hold = refl;
  no_items = refl;
  marks_in_order = refl;
  greatest_key = refl;
  least_key = refl;
  least_of_several = refl;
  no_key = refl;
  marked_nodes = refl;
}
