use Rattle.std.proofs.Common.{arith}
use Rattle.cql_lines.proofs.MasksLaw.{lowest_bit}
use Rattle.cql_lines.proofs.masks.first_place.Goals as goal

pub returns-clause-before : goal.returns-clause-before
returns-clause-before c = λ j less. lowest_bit c.args.mask c.args.count c.ranges.mask.fits j (let e = c.min.ensures in omega (arith, e, less))
