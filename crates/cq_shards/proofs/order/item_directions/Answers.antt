use Rattle.std.proofs.Common.{ap, ◌∙◌}
use Rattle.cq_shards.proofs.Items.{none_found, one_found}
use Rattle.cq_shards.proofs.order.item_directions.Goals as goal
use Rattle.cq_shards.proofs.order.item_directions.Goals.{in-Some+in_ok-push, in_default}

pub loop-i-preserved : goal.loop-i-preserved
loop-i-preserved c =
    elim c.match-direction.branch [
      | in-Some+in_ok-push w ↦
          one_found c.args.items.now c.loop-i.i c.index-items-i.result _ c.loop-i.found.items _ c.loop-i-test.true c.index-items-i.is
          (rw w.in-Some.is at c.direction.ensures) c.loop-i.invariant (ap (λ v. v.items) w.found-is ∙ w.in_ok-push.ensures.items)
      | in_default w ↦
          none_found c.args.items.now c.loop-i.i c.index-items-i.result c.loop-i.found.items _ c.loop-i-test.true c.index-items-i.is
          (rw w.in_default.is at c.direction.ensures) c.loop-i.invariant (ap (λ v. v.items) w.found-is)
    ]
