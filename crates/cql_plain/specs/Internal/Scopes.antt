-- The values of filters in a scope, as the private functions give them.
use Rattle.std.specs.Prelude.{ℕ, List, Option, Some, None, option_to_list}
use Rattle.cq_position.specs.Games.{node_at, way_up}
use Rattle.cq_position.specs.Search.{SearchedTree, children_in, below_in}
use Rattle.cql_syntax.specs.Meaning.{value}
use Rattle.cql_syntax.specs.Trees.{FilterTree}
use Rattle.cql_syntax.specs.Values.{Value}
use Rattle.cql_syntax.specs.declared.leaves.Unary.{Unary}
use Rattle.cql_syntax.specs.declared.leaves.Unary.TheVariants.{Find, FindUp, Child, Parent}
use Rattle.cql_values.specs.Trees.{searched_tree}
use Rattle.cql_plain.specs.declared.scope.Scope.{Scope}

-- the tree that is searched
abbrev pub tree_in : Scope → SearchedTree
tree_in s = searched_tree s.game.now s.variations

-- the value of a filter at a node
abbrev pub value_in : Scope → FilterTree → ℕ → Value
value_in s f n = value (tree_in s) s.context.now s.names.now f n

-- the nodes that a word searches, if it searches any
abbrev pub candidate_nodes : SearchedTree → Unary → ℕ → Option (List ℕ)
candidate_nodes tree Find n = Some (below_in tree n)
candidate_nodes tree FindUp n = Some (way_up tree.game.nodes n)
candidate_nodes tree Child n = Some (children_in tree n)
candidate_nodes tree Parent n = Some (option_to_list (node_at tree.game.nodes n).parent)
candidate_nodes tree word n = None
