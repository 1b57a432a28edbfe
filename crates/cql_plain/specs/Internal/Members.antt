-- The values of the members of a family, as the private functions give them.
use Rattle.std.specs.Prelude.{ℕ, List, ◌∷◌, map, Option, Some, None, if◌then◌else◌}
use Rattle.cq_position.specs.Search.{SearchedTree}
use Rattle.cq_symmetry.specs.Mappings.{PlainMapping}
use Rattle.cql_syntax.specs.Contexts.{Context}
use Rattle.cql_syntax.specs.Meaning.{Names, value, fits, fitting}
use Rattle.cql_syntax.specs.Trees.{FilterTree}
use Rattle.cql_syntax.specs.Values.{Value}

-- the value of a filter inside of one mapping, if the filter fits there
abbrev pub value_in_member : SearchedTree → Context → Names → PlainMapping → FilterTree → ℕ → Option Value
value_in_member tree g e m f n = if fits (m ∷ g) f then Some (value tree (m ∷ g) e f n) else None

-- its values inside of each of some mappings with which it fits
abbrev pub values_in_members : SearchedTree → Context → Names → List PlainMapping → FilterTree → ℕ → List Value
values_in_members tree g e ms f n = map (λ h. value tree h e f n) (fitting g ms f)
