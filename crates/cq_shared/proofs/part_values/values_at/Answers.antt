use Rattle.std.proofs.Common.{sym, ◌∙◌}
use Rattle.cq_shared.proofs.After.{cost_live}
use Rattle.cq_shared.proofs.Telling.{told_none, row_none}
use Rattle.cq_shared.proofs.part_values.values_at.Goals as goal

pub returns-then-part-ne-SORT_CLASS-clause-cost : goal.returns-then-part-ne-SORT_CLASS-clause-cost
returns-then-part-ne-SORT_CLASS-clause-cost g c =
    cost_live c.args.live.now _ _ _ (sym c.any_live.ensures ∙ c.if-not-any_live.false) c.joined_values_at.ensures.cost

pub returns-clause-cost : goal.returns-clause-cost
returns-clause-cost g c =
    cost_live c.args.live.now _ _ _ (sym c.any_live.ensures ∙ c.if-not-any_live.false) c.sort_values_at.ensures.cost

pub returns-then-not-any_live-clause-told : goal.returns-then-not-any_live-clause-told
returns-then-not-any_live-clause-told g c = told_none _ _ _ _ (sym c.any_live.ensures ∙ c.if-not-any_live.true)

pub returns-then-not-any_live-clause-row : goal.returns-then-not-any_live-clause-row
returns-then-not-any_live-clause-row g c = λ class. row_none _ _ _ _ (sym c.any_live.ensures ∙ c.if-not-any_live.true)

pub returns-then-part-ne-SORT_CLASS-clause-told : goal.returns-then-part-ne-SORT_CLASS-clause-told
returns-then-part-ne-SORT_CLASS-clause-told g c = c.joined_values_at.ensures.told

pub returns-clause-told : goal.returns-clause-told
returns-clause-told g c = c.sort_values_at.ensures.told

pub returns-clause-row : goal.returns-clause-row
returns-clause-row g c = c.sort_values_at.ensures.row
