-- Sets of nodes that follow the tree.
use Rattle.std.specs.Prelude.{◌≡◌, ◌↔◌, ◌⊎◌, ℕ, ◌<◌, ◌&&◌, ◌||◌, Bool, true, false, List, Option, None, Some, get_or, length}
use Rattle.cq_position.specs.Games.{Node, node_at, is_below, is_child_of, is_searched}
use Rattle.cq_position.specs.Search.{SearchedTree}
use Rattle.cql_syntax.specs.Meaning.{before}
use Rattle.cql_columns.specs.Columns.{is_live, IsNodeSet}

-- the set has the node; without a node, false
abbrev pub flag_of : List Bool → Option ℕ → Bool
flag_of flags None = false
flag_of flags (Some p) = get_or flags p false

abbrev pub Searched : SearchedTree → ℕ → Type 0
Searched tree n = is_searched tree.variations tree.game.nodes n ≡ true

-- searched nodes, among them all at or below a live node
pub record IsBelowLive (tree : SearchedTree) (live wide : List Bool) : Type 0 where
  pub asked : IsNodeSet tree wide
  pub covers : (n k : ℕ) → is_live live n ≡ true → k < length tree.game.nodes → is_below tree.game.nodes n k ≡ true
      → Searched tree k → is_live wide k ≡ true

-- searched nodes, among them all on the way up from a live node
pub record IsAboveLive (tree : SearchedTree) (live wide : List Bool) : Type 0 where
  pub asked : IsNodeSet tree wide
  pub covers : (n m : ℕ) → is_live live n ≡ true → is_below tree.game.nodes m n ≡ true → is_live wide m ≡ true

-- searched nodes, among them all children of a live node
pub record AreChildrenOfLive (tree : SearchedTree) (live wide : List Bool) : Type 0 where
  pub asked : IsNodeSet tree wide
  pub covers : (n k : ℕ) → is_live live n ≡ true → (node_at tree.game.nodes k).parent ≡ Some n → k < length tree.game.nodes
      → Searched tree k → is_live wide k ≡ true

-- searched nodes, among them the parent of each live node
pub record AreParentsOfLive (tree : SearchedTree) (live wide : List Bool) : Type 0 where
  pub asked : IsNodeSet tree wide
  pub covers : (n p : ℕ) → is_live live n ≡ true → (node_at tree.game.nodes n).parent ≡ Some p → is_live wide p ≡ true

-- searched nodes, among them the node before each live node
pub record AreBeforeLive (tree : SearchedTree) (live wide : List Bool) : Type 0 where
  pub asked : IsNodeSet tree wide
  pub covers : (n : ℕ) → is_live live n ≡ true → is_live wide (before tree n) ≡ true

-- the parent of k is added if `there` is true
pub record AddsParent (nodes : List Node) (k : ℕ) (there : Bool) (old new : List Bool) : Type 0 where
  pub count : length new ≡ length old
  pub each : (n : ℕ) → get_or new n false ≡ (get_or old n false || (there && is_child_of nodes n k))

-- the nodes n for which a node of the set is n or below n
pub record AreWithAncestors (nodes : List Node) (set found : List Bool) : Type 0 where
  pub count : length found ≡ length set
  pub each : (n : ℕ) → (get_or found n false ≡ true) ↔ ((m : ℕ) × (get_or set m false ≡ true) × (is_below nodes n m ≡ true))

-- the nodes n that are in the set or below a node of it
pub record AreWithDescendants (nodes : List Node) (set found : List Bool) : Type 0 where
  pub count : length found ≡ length nodes
  pub each : (n : ℕ) → n < length nodes
      → (get_or found n false ≡ true) ↔ ((m : ℕ) × (get_or set m false ≡ true) × (is_below nodes m n ≡ true))

-- the nodes that were there, and the parents of those of the set
pub record HasParents (nodes : List Node) (set start found : List Bool) : Type 0 where
  pub count : length found ≡ length start
  pub each : (n : ℕ) → (get_or found n false ≡ true)
      ↔ ((get_or start n false ≡ true) ⊎ ((k : ℕ) × (get_or set k false ≡ true) × ((node_at nodes k).parent ≡ Some n)))
