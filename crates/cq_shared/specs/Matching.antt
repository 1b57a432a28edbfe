-- Several queries over one game. Each different part is evaluated at most once, at the nodes that are still left to queries that have it.
use Rattle.std.specs.Prelude.{◌≡◌, ℕ, zero, suc, ◌+◌, ◌<◌, ◌&&◌, ◌||◌, ◌==◌, nat_lt, not, Bool, true, false, List, [], ◌∷◌, Option, None, ℤ, get_or, length, if◌then◌else◌}
use Rattle.std.specs.List.{list_all, sum_by, list_any}
use Rattle.cq_position.specs.Games.{Game, is_searched}
use Rattle.cq_position.specs.Search.{SearchedTree}
use Rattle.cql_columns.specs.Columns.{is_live}
use Rattle.cql_columns.specs.Costs.{filter_cost, searched_len}
use Rattle.cql_syntax.specs.Meaning.{value}
use Rattle.cql_syntax.specs.Trees.{FilterTree, filter_at, FormTree, sort}
use Rattle.cql_syntax.specs.Values.{amount, holds}
use Rattle.cql_values.specs.Trees.{searched_tree}
use Rattle.cq_shared.specs.Parts.{PartTree}
use Rattle.cq_shared.specs.PartTables.{is_among}
use Rattle.cq_shared.specs.Singles.{shown}
use Rattle.cq_shared.specs.declared.part.Part.{Part}
use Rattle.cq_shared.specs.declared.nodes.NodeSet.{NodeSet}
use Rattle.cq_shared.specs.declared.nodes.KeyColumn.{KeyColumn}

abbrev pub tree_for : Game → Part → SearchedTree
tree_for game p = searched_tree game p.single.query.variations

-- a part holds at a node
unfoldable pub holds_at : Game → PartTree → ℕ → Bool
holds_at game p n = holds (value (searched_tree game p.variations) [] [] p.filter n)

abbrev pub part_holds : Game → Part → ℕ → Bool
part_holds game p n = holds_at game (shown p.single) n

-- the number by which a sort item sorts, at a node
abbrev pub form_number : SearchedTree → FormTree → ℕ → Option ℤ
form_number tree (sort least text f) n = amount (value tree [] [] f n)
form_number tree f n = None

unfoldable pub sort_number : SearchedTree → FilterTree → ℕ → Option ℤ
sort_number tree (filter_at at f) n = form_number tree f n

-- the greatest cost of a part as the only item: a step for each searched node, and the cost of its lines
unfoldable pub part_cost : Game → PartTree → ℕ
part_cost game p =
    searched_len (searched_tree game p.variations) + filter_cost (searched_len (searched_tree game p.variations)) p.filter

abbrev pub plan_cost : Game → List PartTree → ℕ
plan_cost game ps = sum_by (part_cost game) ps

-- node n is left to query q
abbrev pub is_left : List NodeSet → ℕ → ℕ → Bool
is_left [] q n = false
is_left (x ∷ xs) zero n = get_or x.there.items n false
is_left (x ∷ xs) (suc q) n = is_left xs q n

-- query q has the part
abbrev pub is_owned_by : ℕ → Part → Bool
is_owned_by q p = is_among q p.owners.items

-- the part holds, or query q doesn't have it
abbrev pub meets : Game → ℕ → ℕ → Part → Bool
meets game q n p = not (is_owned_by q p) || part_holds game p n

-- the class of sort items
abbrev pub sort_class : ℕ
sort_class = 5

-- the part is of a class, or of one before it
abbrev pub is_class : ℕ → Part → Bool
is_class c p = p.class == c

abbrev pub is_before : ℕ → Part → Bool
is_before c p = nat_lt p.class c

abbrev pub meets_if : (Part → Bool) → Game → ℕ → ℕ → Part → Bool
meets_if taken game q n p = not (taken p) || meets game q n p

abbrev pub cost_if : (Part → Bool) → Game → Part → ℕ
cost_if taken game p = if taken p then part_cost game (shown p.single) else 0

unfoldable pub costs_if : (Part → Bool) → Game → List Part → ℕ
costs_if taken game [] = 0
costs_if taken game (p ∷ ps) = cost_if taken game p + costs_if taken game ps

-- the nodes that are left to each query, of its start nodes, after the parts that are taken
pub record AreLeft (taken : Part → Bool) (game : Game) (parts : List Part) (start_nodes left : List NodeSet) : Type 0 where
  pub count : length left ≡ length start_nodes
  pub each : (q n : ℕ) → is_left left q n ≡ (is_left start_nodes q n && list_all (meets_if taken game q n) parts)

-- the nodes left to each query that has the part are searched nodes of the game
pub record IsReady (game : Game) (left : List NodeSet) (p : Part) : Type 0 where
  pub searched : (q n : ℕ) → is_owned_by q p ≡ true → is_left left q n ≡ true
      → is_searched p.single.query.variations game.nodes n ≡ true
  pub inside : (q n : ℕ) → is_owned_by q p ≡ true → is_left left q n ≡ true → n < length game.nodes

abbrev pub AreReady : Game → List NodeSet → List Part → Type 0
AreReady game left parts = (k : ℕ) (p : Part) → k < length parts → p ≡ get_or parts k p → IsReady game left p

-- a node is still left to some query that has the part
pub record IsPending (p : Part) (left : List NodeSet) : Type 0 where
  pub query : ℕ
  pub node : ℕ
  pub has : is_owned_by query p ≡ true
  pub there : is_left left query node ≡ true

-- Every node still left to a query with the part is in the set. If the set has a node, one is left to some query with the part.
pub record CoversPending (p : Part) (left : List NodeSet) (live : List Bool) : Type 0 where
  pub each : (q n : ℕ) → is_owned_by q p ≡ true → is_left left q n ≡ true → is_live live n ≡ true
  pub some : list_any (λ b. b) live ≡ true → IsPending p left

-- a cost, if the set has a node
abbrev pub cost_at : List Bool → ℕ → ℕ
cost_at live cost = if list_any (λ b. b) live then cost else 0

-- the truths of the part, at the live nodes
pub record ArePartTruths (game : Game) (p : Part) (live truths : List Bool) : Type 0 where
  pub each : (n : ℕ) → is_live live n ≡ true → get_or truths n false ≡ part_holds game p n

-- the numbers of a sort item, at the live nodes
pub record IsRowAt (game : Game) (p : Part) (live : List Bool) (row : List (Option ℤ)) : Type 0 where
  pub each : (n : ℕ) → is_live live n ≡ true → get_or row n None ≡ sort_number (tree_for game p) (shown p.single).filter n

-- the nodes left to each query after one part
pub record IsNarrowedBy (game : Game) (p : Part) (left later : List NodeSet) : Type 0 where
  pub count : length later ≡ length left
  pub each : (q n : ℕ) → is_left later q n ≡ (is_left left q n && meets game q n p)

pub record IsNarrowedIf (taken : Part → Bool) (game : Game) (p : Part) (left later : List NodeSet) : Type 0 where
  pub count : length later ≡ length left
  pub each : (q n : ℕ) → is_left later q n ≡ (is_left left q n && meets_if taken game q n p)

-- the numbers of a sort item, at the nodes that are left to the queries that have it
pub record HasKeyColumn (game : Game) (left : List NodeSet) (p : Part) (row : List (Option ℤ)) : Type 0 where
  pub each : p.class ≡ sort_class → (q n : ℕ) → is_owned_by q p ≡ true → is_left left q n ≡ true
      → get_or row n None ≡ sort_number (tree_for game p) (shown p.single).filter n

-- a row for each part, in order
abbrev pub HaveKeyColumns : Game → List NodeSet → List Part → List KeyColumn → Type 0
HaveKeyColumns game left [] [] = Unit {0}
HaveKeyColumns game left (p ∷ ps) (r ∷ rs) = HasKeyColumn game left p r.numbers.items × HaveKeyColumns game left ps rs
HaveKeyColumns game left ps rs = ⊥
