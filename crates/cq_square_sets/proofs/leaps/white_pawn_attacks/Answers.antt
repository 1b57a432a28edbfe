use Rattle.std.proofs.Common.{arith}
use Rattle.cq_square_sets.proofs.Steps.{up_marked}
use Rattle.cq_square_sets.proofs.leaps.white_pawn_attacks.Goals as goal

pub returns : goal.returns
returns c = rw c.number.ensures.value (up_marked c.args.from (omega (arith, c.number.ensures.value, c.number.ensures.below)))
