use Rattle.std.proofs.Common.{◌≡◌, ℕ, ◌+◌, ◌*◌, ◌<◌, get_or, length, map, None}
use Rattle.cql_lines.specs.Internal.Cells.{Represents, AllowedLength}
use Rattle.cql_lines.specs.Internal.AcceptedLengths.{AcceptedLength}
use Rattle.cql_lines.specs.Internal.Passes.{IsVisited, PassInvariant}
use Rattle.cql_lines.specs.Shapes.{Edge, is_searched, searched_count}
use Rattle.cql_lines.specs.Tables.{holds}
use Rattle.cql_lines.specs.Values.{GreatestWhere}
use Rattle.cql_lines.proofs.Counts.{left_nodes}
use Rattle.cql_lines.proofs.visits.longest.Given as goal

abbrev pub invariant-loop-turn : goal.invariant-loop-turn
invariant-loop-turn g l = record {
  stands : PassInvariant l.shape.back (Represents g.R.StateLengths.sets) l.table.words.items l.rules l.shape.primary l.shape.tree_nodes.items l.turn (map g.R.StateLengths.cells l.grid);
  size : length l.values.items ≡ length l.shape.tree_nodes.items;
  done : (n : ℕ) → IsVisited l.shape.back (length l.shape.tree_nodes.items) l.turn n → n < length l.shape.tree_nodes.items →
      GreatestWhere (is_searched l.shape.tree_nodes.items n) (AllowedLength l.shape.extent
      (AcceptedLength (holds l.table.words.items) l.rules (Edge l.shape.back l.shape.primary l.shape.tree_nodes.items) l.first n)) (get_or l.values.items n None);
  exact : l.steps + l.table.atoms * searched_count (left_nodes l.shape.back l.turn l.shape.tree_nodes.items) ≡ l.fn.steps + l.table.atoms * searched_count l.shape.tree_nodes.items;
}
