use Rattle.cql_candidates.proofs.OccupancyColumnLaw.{sets_told}
use Rattle.cql_candidates.proofs.by_occupancy.sets_of.Goals as goal

pub returns-then-ever-men : goal.returns-then-ever-men
returns-then-ever-men c = λ tree live are.
    sets_told tree live c.args.occupancies.now c.loop-ever.ever-index c.ever-item.result c.args.men c.as_slice.result.now c.loop-ever-test.true c.ever-item.is c.if-ever-men.true
    c.as_slice.ensures.value are
