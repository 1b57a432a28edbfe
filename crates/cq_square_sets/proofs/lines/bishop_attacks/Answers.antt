use Rattle.std.proofs.Common.{◌<◌, pos, negsuc, arith}
use Rattle.cq_geometry.specs.Steps.{ray_from}
use Rattle.cq_square_sets.proofs.Marked.{marks_diagonal}
use Rattle.cq_square_sets.proofs.RayTables.{northeast_ray, northeast_rises, northwest_ray, northwest_rises, southeast_ray, southeast_falls, southwest_ray, southwest_falls}
use Rattle.cq_square_sets.proofs.lines.bishop_attacks.Goals as goal

pub returns : goal.returns
returns c occupied m =
    let low : c.args.from < 64 = omega (arith, c.number.ensures.value, c.number.ensures.below) in
    marks_diagonal occupied c.args.from _ _ _ _ low
    (c.seen_rising.ensures (ray_from (pos 1) (pos 1) c.args.from) occupied (northeast_rises c.args.from low) (rw (c.from-at.ensures, c.number.ensures.value) (northeast_ray c.args.from low)) m)
    (c.seen_rising-2.ensures (ray_from (negsuc 0) (pos 1) c.args.from) occupied (northwest_rises c.args.from low) (rw (c.from-at.ensures, c.number.ensures.value) (northwest_ray c.args.from low)) m)
    (c.seen_falling.ensures (ray_from (pos 1) (negsuc 0) c.args.from) occupied (southeast_falls c.args.from low) (rw (c.from-at.ensures, c.number.ensures.value) (southeast_ray c.args.from low)) m)
    (c.seen_falling-2.ensures (ray_from (negsuc 0) (negsuc 0) c.args.from) occupied (southwest_falls c.args.from low) (rw (c.from-at.ensures, c.number.ensures.value) (southwest_ray c.args.from low)) m)
