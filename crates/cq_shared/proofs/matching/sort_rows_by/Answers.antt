use Rattle.std.proofs.Common.{arith, subst, take}
use Rattle.std.proofs.lemmas.List.{take_all}
use Rattle.cq_shared.specs.Matching.{is_class, HaveKeyColumns}
use Rattle.cq_shared.specs.StepBounds.{both}
use Rattle.cq_shared.proofs.After.{left_more, left_all, still_ready, cost_more, narrowed_fewer, still_admits}
use Rattle.cq_shared.proofs.Sorting.{rows_more}
use Rattle.cq_shared.proofs.matching.sort_rows_by.Goals as goal

pub after_sort_if-requires : goal.after_sort_if-requires
after_sort_if-requires g c = record {
  ready = still_ready (is_class 5) c.args.game.now (take c.loop-k.k c.args.parts.now) c.index-parts-k.result c.args.left.items c.loop-k.later.items
      (c.requires.ready c.loop-k.k c.index-parts-k.result c.loop-k-test.true c.index-parts-k.is) c.loop-k.invariant.left;
}

pub returns-clause-left : goal.returns-clause-left
returns-clause-left g c = left_all (is_class 5) c.args.game.now c.args.parts.now c.loop-k.k c.args.left.items c.loop-k.later.items c.loop-k-test.false c.loop-k.invariant.left

pub returns-clause-rows : goal.returns-clause-rows
returns-clause-rows g c =
    subst (λ ps. HaveKeyColumns c.args.game.now c.loop-k.later.items ps c.loop-k.rows.items) (take_all c.loop-k.k c.args.parts.now c.loop-k-test.false) c.loop-k.invariant.rows

pub loop-k-preserved : goal.loop-k-preserved
loop-k-preserved g c =
    let p = c.index-parts-k.result in
    let parts = c.args.parts.now in
    let k = c.loop-k.k in
    let later = c.in_ok-sorted.sorted.left.items in
    record {
      left = left_more (is_class 5) c.args.game.now parts k p c.args.left.items c.loop-k.later.items later c.loop-k-test.true c.index-parts-k.is c.loop-k.invariant.left
          c.in_ok-sorted.ensures.left;
      rows = rows_more c.args.game.now c.loop-k.later.items later parts c.loop-k.rows.items c.push.new.self.items k p c.in_ok-sorted.sorted.row c.loop-k-test.true c.index-parts-k.is
          (narrowed_fewer (is_class 5) c.args.game.now p c.loop-k.later.items later c.in_ok-sorted.ensures.left) c.loop-k.invariant.rows c.in_ok-sorted.ensures.row
          c.in_ok-push.ensures.items;
      cost = λ want admits. omega (
        arith,
        c.loop-k.invariant.cost want admits,
        c.after_sort_if.ensures.cost want
            (still_admits (is_class 5) c.args.game.now (take c.loop-k.k c.args.parts.now) c.args.left.items c.loop-k.later.items want c.index-parts-k.result c.loop-k.invariant.left
            (admits c.loop-k.k c.index-parts-k.result c.loop-k-test.true c.index-parts-k.is)),
        cost_more (both (is_class 5) want) c.args.game.now c.args.parts.now c.loop-k.k c.index-parts-k.result c.loop-k-test.true c.index-parts-k.is,
      );
    }

pub returns-in_err-sorted-clause-cost : goal.returns-in_err-sorted-clause-cost
returns-in_err-sorted-clause-cost g c = λ want admits. omega (
  arith,
  c.loop-k.invariant.cost want admits,
  c.after_sort_if.ensures.cost want
      (still_admits (is_class 5) c.args.game.now (take c.loop-k.k c.args.parts.now) c.args.left.items c.loop-k.later.items want c.index-parts-k.result c.loop-k.invariant.left
      (admits c.loop-k.k c.index-parts-k.result c.loop-k-test.true c.index-parts-k.is)),
  cost_more (both (is_class 5) want) c.args.game.now c.args.parts.now c.loop-k.k c.index-parts-k.result c.loop-k-test.true c.index-parts-k.is,
)

pub returns-in_err-push-clause-cost : goal.returns-in_err-push-clause-cost
returns-in_err-push-clause-cost g c = λ want admits. omega (
  arith,
  c.loop-k.invariant.cost want admits,
  c.after_sort_if.ensures.cost want
      (still_admits (is_class 5) c.args.game.now (take c.loop-k.k c.args.parts.now) c.args.left.items c.loop-k.later.items want c.index-parts-k.result c.loop-k.invariant.left
      (admits c.loop-k.k c.index-parts-k.result c.loop-k-test.true c.index-parts-k.is)),
  cost_more (both (is_class 5) want) c.args.game.now c.args.parts.now c.loop-k.k c.index-parts-k.result c.loop-k-test.true c.index-parts-k.is,
)
