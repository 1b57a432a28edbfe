-- Sets of nodes and of squares that follow the tree, as the private functions make them.
use Rattle.std.specs.Prelude.{ℕ, ◌&&◌, ◌||◌, Bool, List, Option, None, Some, get_or}
use Rattle.cq_position.specs.Games.{node_at, is_searched}
use Rattle.cq_position.specs.Search.{SearchedTree}
use Rattle.cql_columns.specs.Columns.{is_live}
use Rattle.cql_operators.specs.Trees.{flag_of}

-- the set of a node, or the empty set without a node
abbrev pub set_of_node : List ℕ → Option ℕ → ℕ
set_of_node sets None = 0
set_of_node sets (Some n) = get_or sets n 0

-- a node is searched, and is live or below a node of the set
abbrev pub is_below_live : SearchedTree → (live wide : List Bool) → ℕ → Bool
is_below_live tree live wide k =
    is_searched tree.variations tree.game.nodes k && (is_live live k || flag_of wide (node_at tree.game.nodes k).parent)
