use Rattle.std.proofs.Common.{arith}
use Rattle.cql_lines.proofs.MasksLaw.{highest_bit}
use Rattle.cql_lines.proofs.masks.past_places.Goals as goal

pub returns-clause-past : goal.returns-clause-past
returns-clause-past c = λ j past less. highest_bit c.args.mask c.args.count c.ranges.mask.fits j (let e = c.min.ensures in omega (arith, e, past)) less
