use Rattle.std.proofs.Common.{◌^◌, ◌<◌, rules}
use Rattle.cq_position.proofs.Counts.{counted}
use Rattle.cq_position.proofs.position.material.Goals as goal

pub returns : goal.returns
returns c =
    let p = c.args.position.now in
    let fits : c.squares_of.result < 2 ^ 64 = search rules in
    counted c.squares_of.result p.men c.args.man c.is_position.ensures.kept.whole fits (rw c.men.ensures.men at c.squares_of.ensures)
