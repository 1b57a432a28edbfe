use Rattle.std.proofs.Common.{◌<◌, rules}
use Rattle.cq_position.specs.declared.men.Side.TheVariants.{White, Black}
use Rattle.cq_moves.proofs.Targets.{single_marks}
use Rattle.cq_moves.proofs.goals.square_ahead.Goals as goal

pub returns-in-White : goal.returns-in-White
returns-in-White c =
    let low : c.args.from < 64 = search rules in
    rw c.in-White.is (single_marks White c.args.from _ low (rw c.step.ensures.goal at c.set_of.ensures))

pub returns-in-Black : goal.returns-in-Black
returns-in-Black c =
    let low : c.args.from < 64 = search rules in
    rw c.in-Black.is (single_marks Black c.args.from _ low (rw c.step-in-Black.ensures.goal at c.set_of-in-Black.ensures))
