use Rattle.std.proofs.Common.{Bool, ◌+◌, ◌≤◌, take, drop}
use Rattle.cq_shared.specs.Matching.{is_class, costs_if, AreLeft, HaveKeyColumns}
use Rattle.cq_shared.specs.StepBounds.{both, AdmitsAll}
use Rattle.cq_shared.specs.declared.part.Part.{Part}
use Rattle.cq_shared.proofs.matching.sort_rows_by.Given as goal

abbrev pub invariant-loop-k : goal.invariant-loop-k
invariant-loop-k g l = record {
  left : AreLeft (is_class 5) l.game (take l.k l.parts) l.fn.left.items l.later.items;
  rows : HaveKeyColumns l.game l.later.items (take l.k l.parts) l.rows.items;
  cost : (want : Part → Bool) → AdmitsAll want l.fn.left.items l.parts
      → l.steps + costs_if (both (is_class 5) want) l.game (drop l.k l.parts) ≤ l.fn.steps + costs_if (both (is_class 5) want) l.game l.parts;
}
