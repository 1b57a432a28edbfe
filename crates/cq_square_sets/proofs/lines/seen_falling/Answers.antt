use Rattle.std.proofs.Common.{refl}
use Rattle.cq_square_sets.proofs.Stops.{with_last}
use Rattle.cq_square_sets.proofs.Orders.{seen_to_highest}
use Rattle.cq_square_sets.proofs.lines.seen_falling.Goals as goal

pub highest_square-stop-requires : goal.highest_square-stop-requires
highest_square-stop-requires c = with_last _ 1 0 refl

pub returns : goal.returns
returns c along occupied order m n =
    let stop = c.highest_square-stop in
    rw c.number.ensures.value
    (seen_to_highest c.args.ray c.args.empty stop.result along occupied c.ranges.empty.fits stop.ensures.value stop.ensures.above stop.ensures.board order m n)
