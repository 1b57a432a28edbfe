-- The meaning of the rows of lengths, as the private functions fill them from the first node to the last.
use Rattle.std.specs.Prelude.{◌≡◌, ℕ, ◌<◌, List, Bool, true, Option, Some, None, length}
use Rattle.cql_lines.specs.declared.automaton.Transition.{Transition}
use Rattle.cql_lines.specs.declared.shape.TreeNode.{TreeNode}
use Rattle.cql_lines.specs.Internal.AcceptedLengths.{AcceptedLengthFrom}
use Rattle.cql_lines.specs.Shapes.{is_searched, Edge}
use Rattle.cql_lines.specs.Tables.{holds}
use Rattle.cql_lines.specs.Internal.DownwardPass.{cell}

pub record UpInvariant (Represents : (ℕ → Type 0) → ℕ → Type 0) (words : List ℕ) (rules : List Transition) (primary : Bool)
    (tree_nodes : List TreeNode) (t : ℕ) (rows : List (ℕ → ℕ)) : Type 0 where
  pub count : length rows ≡ length tree_nodes
  pub known : (n j : ℕ) → n < t → is_searched tree_nodes n ≡ true
      → Represents (AcceptedLengthFrom (holds words) rules (Edge true primary tree_nodes) j n) (cell rows n j)

-- the row of the node above, or zeros if there is none
pub record IsAbove (above : Option ℕ) (rows : List (ℕ → ℕ)) (row : ℕ → ℕ) : Type 0 where
  pub of_parent : (p j : ℕ) → above ≡ Some p → row j ≡ cell rows p j
  pub of_none : (j : ℕ) → above ≡ None → row j ≡ 0
