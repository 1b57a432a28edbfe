use Rattle.std.proofs.Common.{◌≡◌, false, sym, ◌∙◌, arith}
use Rattle.cq_geometry.specs.declared.compass.Compass.TheVariants.{Up}
use Rattle.cq_symmetry.specs.Images as spec
use Rattle.cq_symmetry.proofs.Found.{find_on}
use Rattle.cq_symmetry.proofs.images.compass_of.Goals as goal

pub loop-direction-preserved : goal.loop-direction-preserved
loop-direction-preserved c =
    let fails = (let r : c.goes.result ≡ false = cc in sym c.goes.ensures ∙ r) in
    find_on _ spec.compasses c.loop-direction.direction-index Up (omega arith) fails ∙ c.loop-direction.invariant
