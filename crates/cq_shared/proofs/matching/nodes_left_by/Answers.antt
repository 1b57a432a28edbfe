use Rattle.std.proofs.Common.{◌≡◌, ◌+◌, arith, subst}
use Rattle.cq_shared.specs.Matching.{is_before, AreLeft}
use Rattle.cq_shared.proofs.After.{left_begun, left_next, all_still_ready, cost_next, cost_later, still_admits}
use Rattle.cq_shared.proofs.matching.nodes_left_by.Goals as goal

pub loop-class-init : goal.loop-class-init
loop-class-init g c = record { left = left_begun c.args.game.now c.args.parts.now c.args.start_nodes.items; cost = λ want admits. omega arith }

pub narrow_by_class-requires : goal.narrow_by_class-requires
narrow_by_class-requires g c = record {
  ready = all_still_ready (is_before c.loop-class.class) c.args.game.now c.args.parts.now c.args.start_nodes.items c.loop-class.left.items c.requires.ready
      c.loop-class.invariant.left;
}

pub loop-class-preserved : goal.loop-class-preserved
loop-class-preserved g c = record {
  left = left_next c.loop-class.class c.args.game.now c.args.parts.now c.args.start_nodes.items c.loop-class.left.items _ c.loop-class.invariant.left c.in_ok-left.ensures.left;
  cost = λ want admits. omega (
    arith,
    c.loop-class.invariant.cost want admits,
    c.narrow_by_class.ensures.cost want
        (λ k p low at. still_admits (is_before c.loop-class.class) c.args.game.now c.args.parts.now c.args.start_nodes.items c.loop-class.left.items want p c.loop-class.invariant.left
        (admits k p low at)),
    cost_next c.loop-class.class want c.args.game.now c.args.parts.now,
  );
}

pub returns-clause-left : goal.returns-clause-left
returns-clause-left g c =
    let e : c.loop-class.class ≡ 5 = omega (arith, c.loop-class-test.false, c.loop-class.auto.class-end) in
    subst (λ k. AreLeft (is_before k) c.args.game.now c.args.parts.now c.args.start_nodes.items c.loop-class.left.items) e c.loop-class.invariant.left

pub returns-clause-cost : goal.returns-clause-cost
returns-clause-cost g c = λ want admits.
    omega (arith, c.loop-class.invariant.cost want admits, cost_later c.loop-class.class 5 want c.args.game.now c.args.parts.now (omega (arith, c.loop-class.auto.class-end)))

pub returns-in_err-left-clause-cost : goal.returns-in_err-left-clause-cost
returns-in_err-left-clause-cost g c = λ want admits. omega (
  arith,
  c.loop-class.invariant.cost want admits,
  c.narrow_by_class.ensures.cost want
      (λ k p low at. still_admits (is_before c.loop-class.class) c.args.game.now c.args.parts.now c.args.start_nodes.items c.loop-class.left.items want p c.loop-class.invariant.left
      (admits k p low at)),
  cost_next c.loop-class.class want c.args.game.now c.args.parts.now,
  cost_later (c.loop-class.class + 1) 5 want c.args.game.now c.args.parts.now (omega (arith, c.loop-class-test.true)),
)
