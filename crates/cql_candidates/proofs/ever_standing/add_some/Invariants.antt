use Rattle.cql_columns.specs.Scopes.{tree_in}
use Rattle.cql_candidates.specs.Occupancy.{AreOccupancies}
use Rattle.cql_candidates.proofs.ever_standing.add_some.Given as goal

abbrev pub invariant-loop-turn : goal.invariant-loop-turn
invariant-loop-turn l = AreOccupancies (tree_in l.scope) l.live l.occupancies.items
