use Rattle.std.proofs.Common.{arith, ◌∙◌}
use Rattle.std.proofs.lemmas.Grind.{common_steps}
use Rattle.cq_outside.proofs.Growth.{grew_take}
use Rattle.cq_outside.proofs.read_write.write_all_of.Goals as goal

pub loop-done-preserved : goal.loop-done-preserved
loop-done-preserved g c = record {
  in_range = grind (arith, common_steps);
  taken = grew_take _ _ _ c.args.bytes.now c.loop-done.done c.in_ok-done.field-0 c.loop-done.invariant.taken c.in_ok-done.ensures.bytes;
  same = c.in_ok-done.ensures.cause.same ∙ c.loop-done.invariant.same;
}
