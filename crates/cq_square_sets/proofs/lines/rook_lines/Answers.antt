use Rattle.std.proofs.Common.{arith}
use Rattle.cq_square_sets.proofs.Steps.{straight_marked}
use Rattle.cq_square_sets.proofs.lines.rook_lines.Goals as goal

pub returns : goal.returns
returns c = rw (c.from.ensures, c.number.ensures.value) (straight_marked c.args.from (omega (arith, c.number.ensures.value, c.number.ensures.below)))
