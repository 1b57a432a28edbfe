use Rattle.std.proofs.Common.{◌+◌, ◌*◌, length}
use Rattle.cq_workers.proofs.starting.+starts.Given as goal

abbrev pub decreases-start_all : goal.decreases-start_all
decreases-start_all g l = 4 * length l.all.now

abbrev pub decreases-start_one : goal.decreases-start_one
decreases-start_one g l = 4 * length l.rest.now + 3

abbrev pub decreases-start_one-others : goal.decreases-start_one-others
decreases-start_one-others g l = 4 * length l.rest.now + 1
