use Rattle.std.proofs.Common.{◌<◌, pos, negsuc, arith}
use Rattle.cq_geometry.specs.Steps.{ray_from}
use Rattle.cq_square_sets.proofs.Marked.{marks_orthogonal}
use Rattle.cq_square_sets.proofs.RayTables.{up_ray, up_rises, down_ray, down_falls, left_ray, left_falls, right_ray, right_rises}
use Rattle.cq_square_sets.proofs.lines.rook_attacks.Goals as goal

pub returns : goal.returns
returns c occupied m =
    let low : c.args.from < 64 = omega (arith, c.number.ensures.value, c.number.ensures.below) in
    marks_orthogonal occupied c.args.from _ _ _ _ low
    (c.seen_rising.ensures (ray_from (pos 0) (pos 1) c.args.from) occupied (up_rises c.args.from low) (rw (c.from-at.ensures, c.number.ensures.value) (up_ray c.args.from low)) m)
    (c.seen_falling.ensures (ray_from (pos 0) (negsuc 0) c.args.from) occupied (down_falls c.args.from low) (rw (c.from-at.ensures, c.number.ensures.value) (down_ray c.args.from low)) m)
    (c.seen_falling-2.ensures (ray_from (negsuc 0) (pos 0) c.args.from) occupied (left_falls c.args.from low) (rw (c.from-at.ensures, c.number.ensures.value) (left_ray c.args.from low)) m)
    (c.seen_rising-2.ensures (ray_from (pos 1) (pos 0) c.args.from) occupied (right_rises c.args.from low) (rw (c.from-at.ensures, c.number.ensures.value) (right_ray c.args.from low)) m)
