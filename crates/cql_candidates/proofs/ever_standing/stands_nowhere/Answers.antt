use Rattle.std.proofs.Common.{subst, sym}
use Rattle.cql_candidates.specs.Occupancy.{IsOccupancy}
use Rattle.cql_candidates.proofs.ever_standing.stands_nowhere.Goals as goal

pub returns-then-is_without : goal.returns-then-is_without
returns-then-is_without c = λ told tree live are.
    c.is_without.ensures c.if-is_without.true tree live (subst (IsOccupancy tree live) (sym c.ever-item.is) (are c.loop-ever.ever-index c.ever-item.result c.loop-ever-test.true))
