-- The construction of a game from the rows of its line.
use Rattle.std.specs.Prelude.{ℕ, ◌-◌, ◌<◌, List, length, Contains}
use Rattle.cq_position.specs.Games.{Node, most_positions, node_at, way_up}
use Rattle.cq_position.specs.Legal.{Leads}
use Rattle.cq_position.specs.Continuations.{Played}

-- a move may be the next node: it leads from the position of its parent, which is the last node or an ancestor of it
pub record IsNext (nodes : List Node) (parent : ℕ) (m : Played) : Type 0 where
  pub node : parent < length nodes
  pub preorder : Contains (way_up nodes (length nodes - 1)) parent
  pub leads : Leads (node_at nodes parent).position m.move m.position
  pub few : length nodes < most_positions
