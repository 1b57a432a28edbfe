-- Words that evaluate their part at other nodes.
use Rattle.std.specs.Prelude.{◌≡◌, ◌↔◌, ℕ, ◌<◌, ◌≤◌, Bool, true, false, List, Some, get_or, length}
use Rattle.cq_position.specs.Games.{Node, node_at, is_below}
use Rattle.cq_position.specs.Search.{SearchedTree}
use Rattle.cq_symmetry.specs.Images.{is_in}
use Rattle.cql_syntax.specs.declared.leaves.Unary.{Unary}
use Rattle.cql_syntax.specs.declared.leaves.Unary.TheVariants.{Find, FindUp, Child, Parent}
use Rattle.cql_columns.specs.Columns.{is_live, IsNodeSet}
use Rattle.cql_operators.specs.Trees.{Searched}

abbrev pub is_from_other_nodes : Unary → Bool
is_from_other_nodes Find = true
is_from_other_nodes FindUp = true
is_from_other_nodes Child = true
is_from_other_nodes Parent = true
is_from_other_nodes _ = false

-- a word that is evaluated at n evaluates its part at m, which is another node or n itself
abbrev pub ReadsFrom : List Node → Unary → ℕ → ℕ → Type 0
ReadsFrom nodes Find n m = is_below nodes n m ≡ true
ReadsFrom nodes FindUp n m = is_below nodes m n ≡ true
ReadsFrom nodes Child n m = (node_at nodes m).parent ≡ Some n
ReadsFrom nodes Parent n m = (node_at nodes n).parent ≡ Some m
ReadsFrom nodes _ n m = ⊥

-- these words evaluate it at searched nodes only
abbrev pub goes_down : Unary → Bool
goes_down Find = true
goes_down Child = true
goes_down _ = false

-- searched nodes, among them all at which the part is evaluated if the word is evaluated at the live nodes
pub record CoverSourceNodes (tree : SearchedTree) (word : Unary) (live wide : List Bool) : Type 0 where
  pub asked : IsNodeSet tree wide
  pub covers : (n m : ℕ) → is_live live n ≡ true → ReadsFrom tree.game.nodes word n m
      → (goes_down word ≡ true → (m < length tree.game.nodes) × Searched tree m) → is_live wide m ≡ true

-- a node is found exactly if a node of the set is among those at which the part is evaluated
pub record FindSourceNodes (nodes : List Node) (word : Unary) (set found : List Bool) : Type 0 where
  pub each : (n : ℕ) → n < length nodes
      → (get_or found n false ≡ true) ↔ ((m : ℕ) × (get_or set m false ≡ true) × ReadsFrom nodes word n m)

-- each node of a game has at least the squares of the nodes at which the part is evaluated
pub record GatherSourceSquares (nodes : List Node) (word : Unary) (there back : List ℕ) : Type 0 where
  pub count : length back ≡ length nodes
  pub each : (n m s : ℕ) → n < length nodes → ReadsFrom nodes word n m → is_in (get_or there m 0) s ≡ true
      → is_in (get_or back n 0) s ≡ true

-- The squares are added at the parent of k. No square is taken away, and from k on nothing changes.
pub record AddSquaresToParent (nodes : List Node) (k more : ℕ) (old new : List ℕ) : Type 0 where
  pub count : length new ≡ length old
  pub grows : (n s : ℕ) → is_in (get_or old n 0) s ≡ true → is_in (get_or new n 0) s ≡ true
  pub adds : (n s : ℕ) → (node_at nodes k).parent ≡ Some n → is_in more s ≡ true → is_in (get_or new n 0) s ≡ true
  pub later : (n : ℕ) → k ≤ n → get_or new n 0 ≡ get_or old n 0
