use Rattle.std.proofs.Common.{◌∙◌, arith, false}
use Rattle.cql_columns.proofs.Filling.{any_default, past, put_none, put_more, put_all, of_masks}
use Rattle.cql_candidates.proofs.covers.uniform_sets.Goals as goal

pub loop-n-init : goal.loop-n-init
loop-n-init c = put_none of_masks c.args.live.now _ _ _ _ c.in_ok-sets.ensures (past c.args.live.now) (λ n low. absurd (omega (arith, low)))

pub loop-n-preserved : goal.loop-n-preserved
loop-n-preserved c =
    put_more of_masks c.args.live.now _ _ c.loop-n.n c.loop-n.sets.items c.given_if.result c.loop-n-test.true
    (λ asked. c.given_if.ensures (any_default c.args.live.now c.loop-n.n _ false (omega (arith, c.loop-n-test.true)) ∙ asked)) c.loop-n.invariant

pub returns : goal.returns
returns c = record {
  count = c.loop-n.invariant.count;
  each = put_all of_masks c.args.live.now (λ n. c.args.set) _ c.loop-n.n c.loop-n.sets.items c.loop-n-test.false c.loop-n.invariant;
}
