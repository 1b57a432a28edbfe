-- The values of filters at a node, in the form that the private functions use.
use Rattle.std.specs.Prelude.{ℕ, ◌<◌, Bool, List, [], ◌∷◌, length}
use Rattle.cq_position.specs.Games.{IsTree}
use Rattle.cql_syntax.specs.Meaning.{Names, value, values}
use Rattle.cql_syntax.specs.Trees.{FilterTree, FilterTrees}
use Rattle.cql_syntax.specs.Values.{Value, holds}
use Rattle.cql_local.specs.NodeScopes.{tree_of}
use Rattle.cql_local.specs.declared.node_scope.GameNode.{GameNode}

-- the game's nodes are a tree, and the node is one of them
pub record IsAt (p : GameNode) : Type 0 where
  pub tree : IsTree p.game.now.nodes
  pub node : p.node < length p.game.now.nodes

-- the value of a filter at the nodes of the place's game
abbrev pub value_at : GameNode → Names → FilterTree → ℕ → Value
value_at p e f n = value (tree_of p) [] e f n

abbrev pub values_at : GameNode → Names → FilterTrees → ℕ → List Value
values_at p e fs n = values (tree_of p) [] e fs n

-- a filter holds at the place with a name bound to a square
abbrev pub holds_at : GameNode → List ℕ → Names → FilterTree → ℕ → Bool
holds_at p name e f s = holds (value (tree_of p) [] ((name, s) ∷ e) f p.node)
