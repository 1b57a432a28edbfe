use Rattle.cql_candidates.proofs.CoverSome.{JoinedTo}
use Rattle.cql_candidates.proofs.covers.add_sets.Given as goal

abbrev pub invariant-loop-n : goal.invariant-loop-n
invariant-loop-n l = JoinedTo l.more l.fn.sets l.n l.sets
