use Rattle.std.proofs.Common.{sym}
use Rattle.cq_position.specs.declared.men.Man.TheVariants.{Empty}
use Rattle.cq_square_sets.proofs.Words.{list_at}
use Rattle.cq_position.specs.Planes.{man_numbered}
use Rattle.cq_position.proofs.planes.Men.at.Goals as goal

pub returns : goal.returns
returns c =
    rw (← c.self.view_is, c.man_numbered.ensures, c.bit.ensures.value, c.bit-2.ensures.value, c.bit-3.ensures.value, c.bit-4.ensures.value)
    (sym (list_at man_numbered Empty c.self.inside.ones c.self.inside.twos c.self.inside.fours c.self.inside.eights c.args.square c.bit.ensures.board))
