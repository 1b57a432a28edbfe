-- The parts in a plan, and the queries that have them.
use Rattle.std.specs.Prelude.{ℕ, zero, suc, Bool, false, List, [], ◌∷◌, ◌++◌, map, if◌then◌else◌}
use Rattle.std.specs.List.{list_any}
use Rattle.cq_shared.specs.Parts.{PartTree, same_part}
use Rattle.cq_shared.specs.PartTables.{is_among}
use Rattle.cq_shared.specs.Singles.{shown}
use Rattle.cq_shared.specs.declared.part.Part.{Part}

abbrev pub all_shown : List Part → List PartTree
all_shown parts = map (λ p. shown p.single) parts

-- the list with a part, unless it has one that is the same
unfoldable pub with_part : List PartTree → PartTree → List PartTree
with_part seen p = if list_any (λ r. same_part r p) seen then seen else seen ++ p ∷ []

-- the list with some parts, one by one
unfoldable pub with_parts : List PartTree → List PartTree → List PartTree
with_parts seen [] = seen
with_parts seen (p ∷ ps) = with_parts (with_part seen p) ps

-- query q has part k
unfoldable pub is_owned : List Part → ℕ → ℕ → Bool
is_owned [] k q = false
is_owned (p ∷ ps) zero q = is_among q p.owners.items
is_owned (p ∷ ps) (suc k) q = is_owned ps k q
