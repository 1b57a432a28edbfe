use Rattle.cql_candidates.proofs.CoverLaw.{in_first, in_two, marked_there}
use Rattle.cql_candidates.proofs.covers.cut_to.Goals as goal

pub returns-then-wanted-clause-within : goal.returns-then-wanted-clause-within
returns-then-wanted-clause-within c = in_first c.args.set c.set_of.result

pub returns-then-wanted-clause-keeps : goal.returns-then-wanted-clause-keeps
returns-then-wanted-clause-keeps c = λ s same h.
    in_two c.args.set c.set_of.result s h (marked_there c.args.set c.set_of.result c.args.square s c.ranges.set.fits h c.set_of.ensures (same c.if-wanted.true))
