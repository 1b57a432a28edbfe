use Rattle.cq_square_sets.proofs.Orders.{highest_there, highest_above}
use Rattle.cq_square_sets.proofs.sets.highest_square.Goals as goal

pub returns-clause-value : goal.returns-clause-value
returns-clause-value c = rw c.new.ensures (highest_there c.args.set c.requires c.ranges.set.fits)

pub returns-clause-above : goal.returns-clause-above
returns-clause-above c k h = highest_above c.args.set k c.requires c.ranges.set.fits (rw c.new.ensures at h)
