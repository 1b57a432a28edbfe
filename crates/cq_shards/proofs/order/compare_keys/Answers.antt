use Rattle.std.proofs.Common.{sym, ◌∙◌}
use Rattle.cq_shards.proofs.Comparing.{decided, here, tied}
use Rattle.cq_shards.proofs.order.compare_keys.Goals as goal

pub returns-then-is_ne : goal.returns-then-is_ne
returns-then-is_ne c =
    sym (c.loop-i.invariant ∙ here c.args.least.now c.args.xs.now c.args.ys.now c.loop-i.i _ _ _ _ c.loop-i-test.true c.key_at-x.ensures
    c.key_at-y.ensures c.compare_values-order.ensures ∙ decided _ _ (sym c.is_ne.ensures ∙ c.if-is_ne.true))

pub loop-i-preserved : goal.loop-i-preserved
loop-i-preserved c =
    c.loop-i.invariant ∙ here c.args.least.now c.args.xs.now c.args.ys.now c.loop-i.i _ _ _ _ c.loop-i-test.true c.key_at-x.ensures
    c.key_at-y.ensures c.compare_values-order.ensures ∙ tied _ _ (sym c.is_ne.ensures ∙ c.if-is_ne.false)
