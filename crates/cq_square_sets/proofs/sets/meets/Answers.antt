use Rattle.cq_square_sets.proofs.Shared.{meets_is}
use Rattle.cq_square_sets.proofs.sets.meets.Goals as goal

pub returns : goal.returns
returns c t u m n = meets_is c.args.a c.args.b t u c.ranges.a.fits m n
