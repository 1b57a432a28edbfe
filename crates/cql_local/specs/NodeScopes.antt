-- The tree of a node at which filters are evaluated.
use Rattle.cq_position.specs.Search.{SearchedTree}
use Rattle.cql_values.specs.Trees.{searched_tree}
use Rattle.cql_local.specs.declared.node_scope.GameNode.{GameNode}

-- the tree that is searched
abbrev pub tree_of : GameNode → SearchedTree
tree_of p = searched_tree p.game.now p.variations
