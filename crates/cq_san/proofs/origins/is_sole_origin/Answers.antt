use Rattle.std.proofs.Common.{eqb-true}
use Rattle.cq_san.proofs.Leftover.{none_elsewhere}
use Rattle.cq_san.proofs.origins.is_sole_origin.Goals as goal

pub returns : goal.returns
returns c empty =
    let there = rw (c.men.ensures.men, c.man_of.ensures, c.side.ensures.side) at c.squares_of-there.ensures in
    none_elsewhere c.args.position.now c.args.parts.now c.origins_to-seen.result c.squares_of-there.result c.number.result c.args.from
    c.origins_to-seen.ensures.goal c.number.ensures.below c.origins_to-seen.ensures.mask there c.number.ensures.value (eqb-true _ 0 empty)
