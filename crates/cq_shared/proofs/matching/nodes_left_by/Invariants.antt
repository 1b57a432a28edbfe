use Rattle.cq_shared.specs.Matching.{is_before, AreLeft}
use Rattle.cq_shared.specs.StepBounds.{TakeAtMost}
use Rattle.cq_shared.proofs.matching.nodes_left_by.Given as goal

abbrev pub invariant-loop-class : goal.invariant-loop-class
invariant-loop-class g l = record {
  left : AreLeft (is_before l.class) l.game l.parts l.fn.start_nodes.items l.left.items;
  cost : TakeAtMost (is_before l.class) l.game l.parts l.fn.start_nodes.items l.fn.steps l.steps;
}
