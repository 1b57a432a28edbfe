-- The record of each query in a plan of several.
use Rattle.std.specs.Prelude.{◌≡◌, ℕ, ◌<◌, ◌≤◌, true, false, List, get_or, length}
use Rattle.cql_plan.specs.Plans.{query_of}
use Rattle.cql_syntax.specs.Flat.{flat_query}
use Rattle.cql_syntax.specs.TreeOf.{query_tree}
use Rattle.cql_syntax.specs.Trees.{QueryTree}
use Rattle.cq_shared.specs.Interning.{all_shown, is_owned}
use Rattle.cq_shared.specs.Parts.{parts_in, are_at, top_parts}
use Rattle.cq_shared.specs.PartTables.{is_among}
use Rattle.cq_shared.specs.declared.part.Part.{Part}
use Rattle.cq_shared.specs.declared.part.PartOwner.{PartOwner}

abbrev pub owner_query : PartOwner → QueryTree
owner_query a = query_tree (query_of a.plan).query

-- the numbers of a query's parts, in order, and the number of those before its sort items
pub record IsOwner (parts : List Part) (q : ℕ) (a : PartOwner) : Type 0 where
  pub numbers : are_at (all_shown parts) a.numbers.items (parts_in (owner_query a)) ≡ true
  pub asked : (k : ℕ) → is_owned parts k q ≡ is_among k a.numbers.items
  pub sorts : a.sorts ≡ length (top_parts (flat_query (owner_query a)).items)

-- each of some queries, by its number; a number past the last has no part
pub record AreOwners (parts : List Part) (owners : List PartOwner) : Type 0 where
  pub each : (q : ℕ) (a : PartOwner) → q < length owners → a ≡ get_or owners q a → IsOwner parts q a
  pub others : (k q : ℕ) → length owners ≤ q → is_owned parts k q ≡ false
