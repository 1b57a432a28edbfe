use Rattle.cql_columns.specs.Scopes.{tree_in}
use Rattle.cql_candidates.specs.Occupancy.{AreOccupancies}
use Rattle.cql_candidates.proofs.ever_standing.+add_filters.Given as goal

abbrev pub invariant-add_filters-loop-filter : goal.invariant-add_filters-loop-filter
invariant-add_filters-loop-filter l = AreOccupancies (tree_in l.scope) l.live l.occupancies.items
