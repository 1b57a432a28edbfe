-- The nodes that the paths from a node reach, and the last steps to them, as the private functions give them.
use Rattle.std.specs.Prelude.{◌≡◌, ◌≤◌, ℕ, zero, suc, ◌+◌, max, Bool, true, false, ◌||◌, ◌==◌, not, List, length, get_or, Option, Some, None, option_map, if◌then◌else◌}
use Rattle.cq_position.specs.Games.{node_at, is_first_child, is_searched}
use Rattle.cq_position.specs.Search.{SearchedTree, IsStep}
use Rattle.cql_syntax.specs.Meaning.{allows}
use Rattle.cql_syntax.specs.declared.extents.Extent.{Extent}
use Rattle.cql_plain.specs.Internal.PatternEnds.{HasPlace}
use Rattle.cql_plain.specs.declared.paths.PathStep.{PathStep}

-- A list has for each node of a game the last step to it of the paths from one node, if they reach it.
abbrev pub place_before : Option PathStep → Option ℕ
place_before None = None
place_before (Some r) = Some r.before

-- paths go on from place i to node k
abbrev pub GoesTo : List (Option PathStep) → ℕ → ℕ → Type 0
GoesTo steps i k = place_before (get_or steps k None) ≡ Some i

-- the place before the step is in the set
abbrev pub comes_from : List Bool → Option PathStep → Bool
comes_from set None = false
comes_from set (Some r) = get_or set r.before false

abbrev pub nodes_to : Option PathStep → ℕ
nodes_to None = 0
nodes_to (Some r) = r.length

-- the number of nodes of the path up to a place
abbrev pub length_at : List (Option PathStep) → ℕ → ℕ
length_at steps zero = 0
length_at steps (suc k) = nodes_to (get_or steps k None)

-- Each step goes on from a place that exists, and its path has one node more than the path up to there. No path has more nodes than the
-- game.
pub record AreSteps (steps : List (Option PathStep)) : Type 0 where
  pub before : (i k : ℕ) → GoesTo steps i k → i ≤ length steps
  pub longer : (i k : ℕ) → GoesTo steps i k → length_at steps (suc k) ≡ length_at steps i + 1
  pub few : (j : ℕ) → length_at steps j ≤ length steps

-- the last steps to all nodes, on the paths from n
pub record ArePaths (tree : SearchedTree) (back primary : Bool) (n : ℕ) (steps : List (Option PathStep)) : Type 0 where
  pub count : length steps ≡ length tree.game.nodes
  pub sound : AreSteps steps
  pub first : GoesTo steps 0 n
  pub begins : (k : ℕ) → GoesTo steps 0 k → k ≡ n
  pub goes : (i k : ℕ) → GoesTo steps (suc i) k → IsStep tree back primary i k
  pub all : (h i k : ℕ) → GoesTo steps h i → IsStep tree back primary i k → GoesTo steps (suc i) k

-- a path of this length ends at some place of a set, and the extent allows the length
abbrev pub IsLength : List (Option PathStep) → List Bool → Extent → ℕ → Type 0
IsLength steps ends extent len =
    (k : ℕ) × HasPlace ends (suc k) × (length_at steps (suc k) ≡ len) × (allows extent len ≡ true)

-- the node above another on a path, and the same of a searched node
abbrev pub above : SearchedTree → (primary : Bool) → ℕ → Option ℕ
above tree primary k = if not primary || is_first_child tree.game.nodes k then (node_at tree.game.nodes k).parent else None

abbrev pub searched_above : SearchedTree → (primary : Bool) → ℕ → Option ℕ
searched_above tree primary k = if is_searched tree.variations tree.game.nodes k then above tree primary k else None

-- the last step to a node, by the node before it
abbrev pub step_after : List (Option PathStep) → Option ℕ → Option PathStep
step_after steps None = None
step_after steps (Some p) = option_map (λ r. record { before = p + 1; length = r.length + 1 }) (get_or steps p None)

abbrev pub step_down : SearchedTree → (primary : Bool) → ℕ → List (Option PathStep) → ℕ → Option PathStep
step_down tree primary n steps k =
    if k == n then Some (record { before = 0; length = 1 }) else step_after steps (searched_above tree primary k)
