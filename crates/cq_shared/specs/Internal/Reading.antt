-- The hits and keys of a query, from the nodes that are left to it and the rows of its sort items.
use Rattle.std.specs.Prelude.{◌≡◌, ℕ, zero, suc, ◌<◌, ◌&&◌, Bool, true, false, List, [], ◌∷◌, Option, None, ℤ, is_some, get_or, length, map, All}
use Rattle.std.specs.List.{filter}
use Rattle.cq_position.specs.Games.{Game, numbers}
use Rattle.cql_columns.specs.Columns.{is_live, Where}
use Rattle.cql_plan.specs.RowKeys.{key_in}
use Rattle.cql_syntax.specs.Flat.{flat_query}
use Rattle.cql_syntax.specs.Hits.{is_hit, tree_of}
use Rattle.cql_syntax.specs.Trees.{FilterTree, filter_at, FormTree, sort, QueryTree}
use Rattle.cq_shared.specs.PartOwners.{owner_query}
use Rattle.cq_shared.specs.Internal.FirstNodes.{is_start_node}
use Rattle.cq_shared.specs.Interning.{all_shown}
use Rattle.cq_shared.specs.Matching.{is_left, sort_class, sort_number, tree_for}
use Rattle.cq_shared.specs.Parts.{parts_in, top_parts, are_at}
use Rattle.cq_shared.specs.PartTables.{is_among}
use Rattle.cq_shared.specs.Singles.{shown}
use Rattle.cq_shared.specs.declared.nodes.NodeSet.{NodeSet}
use Rattle.cq_shared.specs.declared.nodes.KeyColumn.{KeyColumn}
use Rattle.cq_shared.specs.declared.part.PartOwner.{PartOwner}
use Rattle.cq_shared.specs.declared.part.Part.{Part}

-- the nodes of a set, by number
abbrev pub nodes_there : Game → List Bool → List ℕ
nodes_there game there = filter (is_live there) (numbers game.nodes)

-- the node is a start node of the query, and all its flat items hold there
abbrev pub is_found : Game → QueryTree → ℕ → Bool
is_found game q n = is_start_node game q n && is_hit (tree_of q game) (flat_query q).items n

-- the nodes left to each query are its hits
pub record AreFound (game : Game) (owners : List PartOwner) (left : List NodeSet) : Type 0 where
  pub count : length left ≡ length owners
  pub each :
      (q : ℕ) (a : PartOwner) → q < length owners → a ≡ get_or owners q a →
      (n : ℕ) → is_left left q n ≡ is_found game (owner_query a) n

-- a sort item is one with `min`
abbrev pub form_least : FormTree → Bool
form_least (sort least text f) = least
form_least f = false

unfoldable pub is_least : FilterTree → Bool
is_least (filter_at at f) = form_least f

-- the key of the part with a number over some nodes, by its row
unfoldable pub row_key : List Part → List KeyColumn → List ℕ → ℕ → Option ℤ
row_key [] rows nodes k = None
row_key (p ∷ ps) [] nodes k = None
row_key (p ∷ ps) (r ∷ rs) nodes zero = key_in (is_least (shown p.single).filter) r.numbers.items nodes
row_key (p ∷ ps) (r ∷ rs) nodes (suc k) = row_key ps rs nodes k

abbrev pub row_keys : List Part → List KeyColumn → List ℕ → List ℕ → List (Option ℤ)
row_keys parts rows nodes ks = map (row_key parts rows nodes) ks

-- the part with a number has a row with an entry at each of some nodes
pub record HasNumbers (parts : List Part) (rows : List KeyColumn) (nodes : List ℕ) (k : ℕ) : Type 0 where
  pub part : k < length parts
  pub row : k < length rows
  pub some : (r : KeyColumn) → r ≡ get_or rows k r → All (λ n. is_some (get_or r.numbers.items n None) ≡ true) nodes

-- the parts with all these numbers have such rows
abbrev pub HaveNumbers : List Part → List KeyColumn → List ℕ → List ℕ → Type 0
HaveNumbers parts rows nodes ks = (k : ℕ) → is_among k ks ≡ true → HasNumbers parts rows nodes k

-- the nodes that are left to one query, and there the rows of its sort items
pub record IsFoundBy (game : Game) (parts : List Part) (a : PartOwner) (nodes : NodeSet) (rows : List KeyColumn) : Type 0 where
  pub numbers : are_at (all_shown parts) a.numbers.items (parts_in (owner_query a)) ≡ true
  pub sorts : a.sorts ≡ length (top_parts (flat_query (owner_query a)).items)
  pub left : (n : ℕ) → is_live nodes.there.items n ≡ is_found game (owner_query a) n
  pub count : length rows ≡ length parts
  pub each : (k : ℕ) (p : Part) (r : KeyColumn) → p ≡ get_or parts k p → r ≡ get_or rows k r → k < length parts
      → is_among k a.numbers.items ≡ true → p.class ≡ sort_class
      → Where nodes.there.items (λ n. get_or r.numbers.items n None ≡ sort_number (tree_for game p) (shown p.single).filter n)
