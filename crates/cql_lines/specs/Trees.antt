-- The contents of a tree.
use Rattle.std.specs.Prelude.{List, Bool, Option}
use Rattle.cql_lines.specs.declared.shape.Limits.{Limits}
use Rattle.cql_lines.specs.declared.shape.Shape.{Shape}
use Rattle.cql_lines.specs.declared.shape.TreeNode.{TreeNode}

-- its nodes in order
abbrev pub tree_nodes_of : Shape → List TreeNode
tree_nodes_of shape = shape.tree_nodes.items

-- paths go up, and not down
abbrev pub goes_back : Shape → Bool
goes_back shape = shape.back

-- each step joins a node and its first child
abbrev pub is_primary : Shape → Bool
is_primary shape = shape.primary

-- the lengths that count; none if all do
abbrev pub limits_of : Shape → Option Limits
limits_of shape = shape.extent
