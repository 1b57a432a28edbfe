use Rattle.std.proofs.Common.{take, drop, sym, ◌∙◌, arith}
use Rattle.std.proofs.lemmas.Grind.{common_steps}
use Rattle.cq_outside.proofs.Moves.{left_split, moved, moved_all}
use Rattle.cq_outside.proofs.sure_source.SureSourceSource.read.Goals as goal

pub returns-clause-bytes : goal.returns-clause-bytes
returns-clause-bytes c = (
  sym c.self.view_is
      ∙ moved c.self.inside.bytes c.as_slice.result.now c.copy_from_slice.new.self _ c.self.inside.read c.min-n.result c.as_slice.ensures
      (grind (arith, common_steps)) c.copy_from_slice.ensures.after,
  λ z r. moved_all c.self.inside.bytes c.self.inside.read c.min-n.result _ _ c.min-n.ensures (grind (arith, common_steps)) z (grind (arith, common_steps)),
)

pub returns-clause-next : goal.returns-clause-next
returns-clause-next c = (
  take c.min-n.result (drop c.self.inside.read c.self.inside.bytes),
  sym c.self.view_is ∙ left_split c.self.inside.bytes c.self.inside.read c.min-n.result,
)
