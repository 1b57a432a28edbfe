use Rattle.std.proofs.Common.{arith}
use Rattle.cq_square_sets.proofs.Steps.{kings_marked}
use Rattle.cq_square_sets.proofs.leaps.king_attacks.Goals as goal

pub returns : goal.returns
returns c = rw (c.from.ensures, c.number.ensures.value) (kings_marked c.args.from (omega (arith, c.number.ensures.value, c.number.ensures.below)))
