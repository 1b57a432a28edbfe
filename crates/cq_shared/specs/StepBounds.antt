-- The greatest cost of evaluation: the cost of the parts for which a node is still left.
use Rattle.std.specs.Prelude.{◌≡◌, ℕ, ◌+◌, ◌<◌, ◌≤◌, ◌&&◌, Bool, true, List, get_or, length}
use Rattle.std.specs.List.{list_any, filter}
use Rattle.cq_position.specs.Games.{Game}
use Rattle.cql_plan.specs.Needs.{query_passes}
use Rattle.cql_syntax.specs.Trees.{QueryTree}
use Rattle.cq_shared.specs.Matching.{cost_if, costs_if, IsPending}
use Rattle.cq_shared.specs.Parts.{PartTree, same_part, parts_in}
use Rattle.cq_shared.specs.declared.nodes.NodeSet.{NodeSet}
use Rattle.cq_shared.specs.declared.part.Part.{Part}

-- The test is true of the part if a node is still left to a query that has the part. `AdmitsAll` requires it of each part.
abbrev pub Admits : (Part → Bool) → List NodeSet → Part → Type 0
Admits want left p = IsPending p left → want p ≡ true

abbrev pub AdmitsAll : (Part → Bool) → List NodeSet → List Part → Type 0
AdmitsAll want left parts = (k : ℕ) (p : Part) → k < length parts → p ≡ get_or parts k p → Admits want left p

abbrev pub both : (Part → Bool) → (Part → Bool) → Part → Bool
both taken want p = taken p && want p

-- For each such test the steps rise by at most the cost of those parts that are taken and meet the test.
abbrev pub TakesAtMost : (Part → Bool) → Game → Part → List NodeSet → ℕ → ℕ → Type 0
TakesAtMost taken game p left before now =
    (want : Part → Bool) → Admits want left p → now ≤ before + cost_if (both taken want) game p

abbrev pub TakeAtMost : (Part → Bool) → Game → List Part → List NodeSet → ℕ → ℕ → Type 0
TakeAtMost taken game parts left before now =
    (want : Part → Bool) → AdmitsAll want left parts → now ≤ before + costs_if (both taken want) game parts

-- the query has the part
abbrev pub has_part : PartTree → QueryTree → Bool
has_part p q = list_any (λ r. same_part p r) (parts_in q)

-- a query whose needs the game meets has the part
abbrev pub is_needed_in : Game → List QueryTree → PartTree → Bool
is_needed_in game queries p = list_any (λ q. query_passes q game && has_part p q) queries

-- those parts that such a query has
unfoldable pub needed_parts : Game → List QueryTree → List PartTree → List PartTree
needed_parts game queries ps = filter (is_needed_in game queries) ps
