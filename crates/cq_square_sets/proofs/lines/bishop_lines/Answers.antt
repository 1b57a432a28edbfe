use Rattle.std.proofs.Common.{arith}
use Rattle.cq_square_sets.proofs.Steps.{slanted_marked}
use Rattle.cq_square_sets.proofs.lines.bishop_lines.Goals as goal

pub returns : goal.returns
returns c = rw (c.from.ensures, c.number.ensures.value) (slanted_marked c.args.from (omega (arith, c.number.ensures.value, c.number.ensures.below)))
