use Rattle.std.proofs.Common.{◌≡◌, Bool, List, sym, subst}
use Rattle.cq_shared.specs.Matching.{CoversPending}
use Rattle.cq_shared.specs.declared.nodes.NodeSet.{NodeSet}
use Rattle.cq_shared.specs.declared.part.Part.{Part}
use Rattle.cq_shared.proofs.After.{cost_wanted, narrowed_row}
use Rattle.cq_shared.proofs.matching.after.Goals as goal

-- the same of nodes that are lent
covered : (p : Part) (left lent : List NodeSet) (live asked : List Bool) → lent ≡ left → asked ≡ live → CoversPending p lent live → CoversPending p left asked
covered p left lent live asked same are had = subst (CoversPending p left) (sym are) (subst (λ nodes. CoversPending p nodes live) same had)

pub returns-clause-row : goal.returns-clause-row
returns-clause-row g c =
    narrowed_row c.args.game.now c.args.part.now c.args.left.items _ c.as_slice-2.result.now _ c.in_ok-later.ensures
    (covered _ _ _ _ _ c.as_slice.ensures.value c.as_slice-2.ensures.value c.in_ok-live.ensures.1) c.in_ok-asked.ensures.row

pub returns-clause-cost : goal.returns-clause-cost
returns-clause-cost g c =
    cost_wanted c.args.game.now c.args.part.now c.args.left.items c.as_slice-2.result.now _ _ c.values_at.ensures.cost
    (covered _ _ _ _ _ c.as_slice.ensures.value c.as_slice-2.ensures.value c.in_ok-live.ensures.1)

pub returns-in_err-asked-clause-cost : goal.returns-in_err-asked-clause-cost
returns-in_err-asked-clause-cost g c =
    cost_wanted c.args.game.now c.args.part.now c.args.left.items c.as_slice-2.result.now _ _ c.values_at.ensures.cost
    (covered _ _ _ _ _ c.as_slice.ensures.value c.as_slice-2.ensures.value c.in_ok-live.ensures.1)

pub returns-in_err-later-clause-cost : goal.returns-in_err-later-clause-cost
returns-in_err-later-clause-cost g c =
    cost_wanted c.args.game.now c.args.part.now c.args.left.items c.as_slice-2.result.now _ _ c.values_at.ensures.cost
    (covered _ _ _ _ _ c.as_slice.ensures.value c.as_slice-2.ensures.value c.in_ok-live.ensures.1)
