use Rattle.std.proofs.Common.{refl}
use Rattle.cq_square_sets.proofs.Stops.{with_last}
use Rattle.cq_square_sets.proofs.Orders.{seen_to_lowest}
use Rattle.cq_square_sets.proofs.lines.seen_rising.Goals as goal

pub lowest_square-stop-requires : goal.lowest_square-stop-requires
lowest_square-stop-requires c = with_last _ 9223372036854775808 63 refl

pub returns : goal.returns
returns c along occupied order m n =
    let stop = c.lowest_square-stop in
    rw c.number.ensures.value
    (seen_to_lowest c.args.ray c.args.empty stop.result along occupied c.ranges.ray.fits c.ranges.empty.fits stop.ensures.value stop.ensures.board order m n)
