use Rattle.cql_candidates.proofs.OccupancyColumnLaw.{AllKept}
use Rattle.cql_candidates.proofs.by_occupancy.keep_all.Given as goal

abbrev pub invariant-loop-part : goal.invariant-loop-part
invariant-loop-part l = AllKept l.occupancies l.parts l.part-index l.fn.held l.held
