-- A pass over the nodes of a tree, as the private functions make it: upwards from the first node to the last, downwards from the last to
-- the first.
use Rattle.std.specs.Prelude.{◌≡◌, ℕ, ◌+◌, ◌-◌, ◌<◌, ◌≤◌, List, Bool, true, false, slice_set}
use Rattle.cql_lines.specs.declared.automaton.Transition.{Transition}
use Rattle.cql_lines.specs.declared.shape.TreeNode.{TreeNode}
use Rattle.cql_lines.specs.Internal.DownwardPass.{DownInvariant, IsParentUpdate, cell}
use Rattle.cql_lines.specs.Internal.UpwardPass.{UpInvariant, IsAbove}
use Rattle.cql_lines.specs.Shapes.{joined}

-- the node that a pass visits after a number of others
abbrev pub visited_node : Bool → ℕ → ℕ → ℕ
visited_node true size turn = turn
visited_node false size turn = size - 1 - turn

-- the number of nodes that it visits before a node
abbrev pub turns_before : Bool → ℕ → ℕ → ℕ
turns_before true size n = n
turns_before false size n = size - n - 1

-- the node is among those that it visits first
abbrev pub IsVisited : Bool → ℕ → ℕ → ℕ → Type 0
IsVisited true size turn n = n < turn
IsVisited false size turn n = size ≤ n + turn

-- the rows after a number of visits
abbrev pub PassInvariant :
    Bool → ((ℕ → Type 0) → ℕ → Type 0) → List ℕ → List Transition → Bool → List TreeNode → ℕ → List (ℕ → ℕ) → Type 0
PassInvariant true = UpInvariant
PassInvariant false = DownInvariant

-- the row of the nodes after a node on the paths
abbrev pub IsNextRow : Bool → Bool → List TreeNode → ℕ → List (ℕ → ℕ) → (ℕ → ℕ) → Type 0
IsNextRow true primary tree_nodes n rows row = IsAbove (joined primary tree_nodes n) rows row
IsNextRow false primary tree_nodes n rows row = cell rows n ≡ row

-- the update of the rows by the lengths of a node
abbrev pub IsUpdate : Bool → (ℕ → ℕ → ℕ) → Bool → List TreeNode → ℕ → (rows new : List (ℕ → ℕ)) → (ℕ → ℕ) → Type 0
IsUpdate true join primary tree_nodes n rows new own = new ≡ slice_set rows n own
IsUpdate false join primary tree_nodes n rows new own = IsParentUpdate join primary tree_nodes n rows new own
