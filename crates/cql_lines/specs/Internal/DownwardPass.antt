-- The meaning of the rows of lengths, as the private functions fill them from the last node to the first.
use Rattle.std.specs.Prelude.{◌≡◌, ℕ, zero, suc, ◌+◌, ◌≤◌, List, Bool, false, Option, Some, None, length, get_or}
use Rattle.cql_lines.specs.declared.automaton.Transition.{Transition}
use Rattle.cql_lines.specs.declared.shape.TreeNode.{TreeNode}
use Rattle.cql_lines.specs.Internal.AcceptedLengths.{AcceptedLengthFrom}
use Rattle.cql_lines.specs.Tables.{holds}
use Rattle.cql_lines.specs.Shapes.{joined, Edge}

-- the cell of a place in the row of a node
abbrev pub cell : List (ℕ → ℕ) → ℕ → ℕ → ℕ
cell rows n = get_or rows n (λ j. 0)

-- a way of k nodes from some node joined to n, among the last t, that the place j begins
abbrev pub LengthBelow : List ℕ → List Transition → Bool → List TreeNode → ℕ → ℕ → ℕ → ℕ → Type 0
LengthBelow words rules primary tree_nodes t n j k =
    (c : ℕ) × (length tree_nodes ≤ c + t) × (joined primary tree_nodes c ≡ Some n)
    × AcceptedLengthFrom (holds words) rules (Edge false primary tree_nodes) j c k

-- `Represents` says of a number that it represents the lengths of a kind: as the greatest of them, or as their set of bits
pub record DownInvariant (Represents : (ℕ → Type 0) → ℕ → Type 0) (words : List ℕ) (rules : List Transition) (primary : Bool) (tree_nodes : List TreeNode)
    (t : ℕ) (rows : List (ℕ → ℕ)) : Type 0 where
  pub count : length rows ≡ length tree_nodes
  pub known : (n j : ℕ) → Represents (LengthBelow words rules primary tree_nodes t n j) (cell rows n j)

-- no length for 0, else the length
abbrev pub found : ℕ → Option ℕ
found zero = None
found (suc m) = Some (suc m)

-- the update of the row of a parent by the row of one of its nodes
pub record IsParentUpdate (join : ℕ → ℕ → ℕ) (primary : Bool) (tree_nodes : List TreeNode) (n : ℕ) (rows new : List (ℕ → ℕ))
    (own : ℕ → ℕ) : Type 0 where
  pub count : length new ≡ length rows
  pub parent : (p j : ℕ) → joined primary tree_nodes n ≡ Some p → cell new p j ≡ join (cell rows p j) (own j)
  pub others : (p j : ℕ) → (joined primary tree_nodes n ≡ Some p → ⊥) → cell new p j ≡ cell rows p j
