-- The moves of a game as rows, one for each node after the root.
use Rattle.std.specs.Prelude.{List, map, Some}
use Rattle.cq_position.specs.Games.{Node, bare_node}
use Rattle.cq_maker.specs.declared.drawn_move.DrawnMove.{DrawnMove}

abbrev pub node_of_row : DrawnMove → Node
node_of_row r = bare_node (Some r.parent) (Some r.led_by) r.position

abbrev pub nodes_of_rows : List DrawnMove → List Node
nodes_of_rows rows = map node_of_row rows
