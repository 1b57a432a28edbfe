use Rattle.std.proofs.Common.{arith, take}
use Rattle.cq_shared.specs.Matching.{is_class}
use Rattle.cq_shared.specs.StepBounds.{both}
use Rattle.cq_shared.proofs.After.{left_none, left_more, left_all, still_ready, cost_more, still_admits}
use Rattle.cq_shared.proofs.matching.narrow_by_class.Goals as goal

pub loop-k-init : goal.loop-k-init
loop-k-init g c = record { left = left_none (is_class c.args.class) c.args.game.now c.args.parts.now c.args.left.items; cost = λ want admits. omega arith }

pub after_if-requires : goal.after_if-requires
after_if-requires g c = record {
  ready = still_ready (is_class c.args.class) c.args.game.now (take c.loop-k.k c.args.parts.now) c.index-parts-k.result c.args.left.items c.loop-k.later.items
      (c.requires.ready c.loop-k.k c.index-parts-k.result c.loop-k-test.true c.index-parts-k.is) c.loop-k.invariant.left;
}

pub loop-k-preserved : goal.loop-k-preserved
loop-k-preserved g c = record {
  left = left_more (is_class c.args.class) c.args.game.now c.args.parts.now c.loop-k.k c.index-parts-k.result c.args.left.items c.loop-k.later.items _ c.loop-k-test.true c.index-parts-k.is
      c.loop-k.invariant.left c.in_ok-later.ensures.left;
  cost = λ want admits. omega (
    arith,
    c.loop-k.invariant.cost want admits,
    c.after_if.ensures.cost want
        (still_admits (is_class c.args.class) c.args.game.now (take c.loop-k.k c.args.parts.now) c.args.left.items c.loop-k.later.items want c.index-parts-k.result c.loop-k.invariant.left
        (admits c.loop-k.k c.index-parts-k.result c.loop-k-test.true c.index-parts-k.is)),
    cost_more (both (is_class c.args.class) want) c.args.game.now c.args.parts.now c.loop-k.k c.index-parts-k.result c.loop-k-test.true c.index-parts-k.is,
  );
}

pub returns-clause-left : goal.returns-clause-left
returns-clause-left g c = left_all (is_class c.args.class) c.args.game.now c.args.parts.now c.loop-k.k c.args.left.items c.loop-k.later.items c.loop-k-test.false c.loop-k.invariant.left

pub returns-in_err-later-clause-cost : goal.returns-in_err-later-clause-cost
returns-in_err-later-clause-cost g c = λ want admits. omega (
  arith,
  c.loop-k.invariant.cost want admits,
  c.after_if.ensures.cost want
      (still_admits (is_class c.args.class) c.args.game.now (take c.loop-k.k c.args.parts.now) c.args.left.items c.loop-k.later.items want c.index-parts-k.result c.loop-k.invariant.left
      (admits c.loop-k.k c.index-parts-k.result c.loop-k-test.true c.index-parts-k.is)),
  cost_more (both (is_class c.args.class) want) c.args.game.now c.args.parts.now c.loop-k.k c.index-parts-k.result c.loop-k-test.true c.index-parts-k.is,
)
