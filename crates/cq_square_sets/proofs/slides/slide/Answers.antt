use Rattle.std.proofs.Common.{arith}
use Rattle.cq_square_sets.proofs.Sliding.{begins, slides_on, ends}
use Rattle.cq_square_sets.proofs.slides.slide.Goals as goal

pub loop-step-init : goal.loop-step-init
loop-step-init g c = begins _ _ c.args.from c.args.empty

pub loop-step-preserved : goal.loop-step-preserved
loop-step-preserved g c = slides_on _ _ _ _ _ _ _ _ c.requires c.moved_by-moved.ensures c.loop-step.invariant

pub returns : goal.returns
returns g c = ends _ _ c.args.from c.args.empty c.loop-step.reached c.loop-step.edge c.loop-step._step (omega arith) c.loop-step.invariant
