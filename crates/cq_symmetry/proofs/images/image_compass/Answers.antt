use Rattle.std.proofs.Common.{◌∙◌, ap}
use Rattle.std.specs.Prelude.{find, unwrap_or}
use Rattle.cq_symmetry.specs.Images as spec
use Rattle.cq_symmetry.proofs.images.image_compass.Goals as goal

pub returns : goal.returns
unfolding spec.image_compass
returns c = c.unwrap_or.ensures ∙ ap (λ o. unwrap_or o c.args.c) (c.compass_of.ensures ∙ ap (λ step. find (spec.goes step) spec.compasses) c.turned_step.ensures)
