use Rattle.std.proofs.Common.{◌≡◌, length, refl, sym, ap, ◌∙◌}
use Rattle.cq_square_sets.proofs.Words.{list_length}
use Rattle.cq_position.specs.Board.{man_at}
use Rattle.cq_position.specs.Planes.{man_numbered}
use Rattle.cq_position.proofs.Listed.{same_start, same_more, same_end}
use Rattle.cq_position.proofs.planes.Men.listed.Goals as goal

pub loop-number-init : goal.loop-number-init
loop-number-init c = same_start _ _ refl

pub loop-number-preserved : goal.loop-number-preserved
loop-number-preserved c =
    rw c.from.ensures
    (same_more c.loop-number.listed c.args.self.now c.loop-number.number c.at.result c.loop-number-test.true
    (c.at.ensures ∙ ap (man_at c.args.self.now) c.new.ensures) c.loop-number.invariant)

pub returns : goal.returns
returns c =
    let i = c.self.inside in
    let long : length c.args.self.now ≡ 64 = ap length (sym c.self.view_is) ∙ list_length man_numbered i.ones i.twos i.fours i.eights in
    same_end c.loop-number.listed c.args.self.now c.loop-number.number c.loop-number-test.false long c.loop-number.invariant
