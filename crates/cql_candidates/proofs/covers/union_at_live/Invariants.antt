use Rattle.cql_candidates.proofs.CoverLaw.{AmongTo}
use Rattle.cql_candidates.proofs.covers.union_at_live.Given as goal

abbrev pub invariant-loop-n : goal.invariant-loop-n
invariant-loop-n l = AmongTo l.live l.sets l.n l.among
