-- The distinct flat forms of a family's members, one after the other, for the contracts of private functions.
use Rattle.std.specs.Prelude.{Bool, false, ◌||◌, ◌∷◌, Option, Some, None, if◌then◌else◌}
use Rattle.cq_symmetry.specs.Mappings.{PlainMapping}
use Rattle.cql_syntax.specs.Contexts.{Context}
use Rattle.cql_syntax.specs.Flat.{flat}
use Rattle.cql_syntax.specs.Meaning.{fits}
use Rattle.cql_syntax.specs.Same.{same_filter}
use Rattle.cql_syntax.specs.Trees.{FilterTree, FilterTrees, no_filters, more_filters, with_filter}

-- the flat form of a filter inside of one more mapping, if it fits
abbrev pub flat_if_fits : Context → PlainMapping → FilterTree → Option FilterTree
flat_if_fits g m f = if fits (m ∷ g) f then Some (flat (m ∷ g) f) else None

-- one of the filters is the same as this one
abbrev pub some_same : FilterTrees → FilterTree → Bool
some_same no_filters f = false
some_same (more_filters g gs) f = same_filter g f || some_same gs f

-- the filters, and one more at the end if there is one that is the same as none of them
abbrev pub with_new : FilterTrees → Option FilterTree → FilterTrees
with_new fs None = fs
with_new fs (Some f) = if some_same fs f then fs else with_filter fs f
