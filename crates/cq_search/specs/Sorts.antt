-- Queries with an item by which games are sorted.
use Rattle.std.specs.Prelude.{Bool, true, false, List, [], ◌∷◌}
use Rattle.cql_syntax.specs.Trees.{FilterTree, FilterTrees}
use Rattle.cq_shards.specs.Order.{filter_directions, directions}

-- there is a direction
abbrev pub is_some : List Bool → Bool
is_some [] = false
is_some (d ∷ ds) = true

-- a filter, or one of some filters, gives a direction in which games are sorted
abbrev pub is_sort : FilterTree → Bool
is_sort f = is_some (filter_directions f)

abbrev pub have_sort : FilterTrees → Bool
have_sort fs = is_some (directions fs)
