-- The tree of a game that a query searches, and the paths in it.
use Rattle.std.specs.Prelude.{◌≡◌, ℕ, zero, suc, ◌-◌, Bool, true, false, ◌&&◌, ◌||◌, not, ◌==◌, List, [], ◌∷◌, map, flat_map, filter, length, count_by, Some, None, option_to_list}
use Rattle.std.specs.List.{last_or, list_any}
use Rattle.cq_position.specs.Board.{Board}
use Rattle.cq_position.specs.Men.{man_number}
use Rattle.cq_position.specs.Games.{Game, Node, node_at, children, is_first_child, way_up, is_below, is_searched, searched}

-- a game, and a flag that is true if the variations are searched too
pub record SearchedTree : Type 0 where
  pub game : Game
  pub variations : Bool

-- the nodes of the tree: all with variations, else the main line
abbrev pub nodes_in : SearchedTree → List ℕ
nodes_in tree = searched tree.variations tree.game.nodes

-- the children of a node in the tree
abbrev pub children_in : SearchedTree → ℕ → List ℕ
children_in tree n = filter (is_searched tree.variations tree.game.nodes) (children tree.game.nodes n)

-- a node and its descendants in the tree
abbrev pub below_in : SearchedTree → ℕ → List ℕ
below_in tree n = filter (is_below tree.game.nodes n) (nodes_in tree)

-- the number of moves from the root to a node, null moves included; it is one less than the nodes on the way
abbrev pub ply : List Node → ℕ → ℕ
ply nodes n = length (way_up nodes n) - 1

-- true of a node that begins a variation: it is neither the root nor the first child of its parent
abbrev pub begins_variation : List Node → ℕ → Bool
begins_variation nodes n = not (n == 0) && not (is_first_child nodes n)

-- the number of variations that begin on the way from the root to a node
abbrev pub depth : List Node → ℕ → ℕ
depth nodes n = count_by (begins_variation nodes) (way_up nodes n)

-- true if the man number k is in a position, and if it is in some position of the tree
unfoldable pub has_man : Board → ℕ → Bool
has_man p k = list_any (λ m. man_number m == k) p.men

unfoldable pub has_man_in : SearchedTree → ℕ → Bool
has_man_in tree k = list_any (λ n. has_man (node_at tree.game.nodes n).position k) (nodes_in tree)

-- A step down goes from a node to a child of it in the tree. A step up goes from a node to its parent. With `primary`, one of the two is
-- the first child of the other.
pub record IsStepDown (tree : SearchedTree) (primary : Bool) (n k : ℕ) : Type 0 where
  pub child : (node_at tree.game.nodes k).parent ≡ Some n
  pub is_in : is_searched tree.variations tree.game.nodes k ≡ true
  pub first : primary ≡ true → is_first_child tree.game.nodes k ≡ true

pub record IsStepUp (tree : SearchedTree) (primary : Bool) (n k : ℕ) : Type 0 where
  pub parent : (node_at tree.game.nodes n).parent ≡ Some k
  pub first : primary ≡ true → is_first_child tree.game.nodes n ≡ true

abbrev pub IsStep : SearchedTree → (back primary : Bool) → ℕ → ℕ → Type 0
IsStep tree false primary n k = IsStepDown tree primary n k
IsStep tree true primary n k = IsStepUp tree primary n k

-- from n on, each number is related to the next
abbrev pub Along : (ℕ → ℕ → Type 0) → ℕ → List ℕ → Type 0
Along step n [] = Unit {0}
Along step n (m ∷ ms) = step n m × Along step m ms

-- A path begins at a node and goes on by steps, all of them down, or all of them up with `back`.
pub record IsPath (tree : SearchedTree) (back primary : Bool) (n : ℕ) (path : List ℕ) : Type 0 where
  pub later : List ℕ
  pub begins : path ≡ n ∷ later
  pub goes : Along (IsStep tree back primary) n later

-- the path down from a node of a game to another
pub record IsDownPath (game : Game) (from to : ℕ) (path : List ℕ) : Type 0 where
  pub goes : IsPath (record { game = game; variations = true }) false false from path
  pub ends : last_or None path ≡ Some to

-- The next nodes of a path at a node.
abbrev pub next_in : SearchedTree → (back primary : Bool) → ℕ → List ℕ
next_in tree true primary n =
    filter (λ p. not primary || is_first_child tree.game.nodes n) (option_to_list (node_at tree.game.nodes n).parent)
next_in tree false primary n = filter (λ c. not primary || is_first_child tree.game.nodes c) (children_in tree n)

-- the lists that begin at n and go on by next nodes, of one node up to so many
abbrev pub paths_within : ℕ → (ℕ → List ℕ) → ℕ → List (List ℕ)
paths_within zero next n = []
paths_within (suc most) next n = (n ∷ []) ∷ map (λ w. n ∷ w) (flat_map (paths_within most next) (next n))

-- The paths that begin at a node, of every length. None has more nodes than the game, since parents come first.
unfoldable pub paths : SearchedTree → (back primary : Bool) → ℕ → List (List ℕ)
paths tree back primary n = paths_within (length tree.game.nodes) (next_in tree back primary) n
