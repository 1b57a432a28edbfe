use Rattle.std.proofs.Common.{◌≡◌, length, ap}
use Rattle.std.proofs.lemmas.List.{get_or_default}
use Rattle.cq_position.specs.declared.men.Man.TheVariants.{K, Empty}
use Rattle.cq_position.proofs.Listed.{same_start, same_more, same_end}
use Rattle.cq_position.proofs.planes.Men.of.Goals as goal

pub loop-number-init : goal.loop-number-init
loop-number-init c =
    let long : length c.empty-men.result ≡ 64 = ap length c.empty-men.ensures in
    same_start c.empty-men.result c.args.listed.now long

pub loop-number-preserved : goal.loop-number-preserved
loop-number-preserved c =
    rw (c.set.ensures, c.new.ensures, c.from.ensures)
    (same_more c.loop-number.men c.args.listed.now c.loop-number.number _ c.loop-number-test.true
    (get_or_default c.args.listed.now c.loop-number.number K Empty (rw c.told-listed c.loop-number-test.true)) c.loop-number.invariant)

pub returns : goal.returns
returns c = same_end c.loop-number.men c.args.listed.now c.loop-number.number c.loop-number-test.false c.told-listed c.loop-number.invariant
