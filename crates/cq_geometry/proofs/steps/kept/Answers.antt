use Rattle.std.proofs.Common.{◌≡◌, ◌<◌, ◌+◌, ℕ, Option, Some, None, List, [], ◌∷◌, ◌++◌, length, get_or, take, arith, ap, ◌∙◌}
use Rattle.std.proofs.lemmas.Grind.{common_steps}
use Rattle.std.proofs.lemmas.List.{take_more}
use Rattle.std.proofs.lemmas.List.Elements.{filter_map-append}
use Rattle.cq_geometry.specs.Internal.Expansions.{kept_goals}
use Rattle.cq_geometry.proofs.steps.kept.Goals as goal
use Rattle.cq_geometry.proofs.steps.kept.Goals.{in-Some, in_default}

-- one goal more
kept_more : (goals : List (Option ℕ)) (i : ℕ) (d v : Option ℕ) → i < length goals → get_or goals i d ≡ v
    → kept_goals (take (i + 1) goals) ≡ kept_goals (take i goals) ++ kept_goals (v ∷ [])
kept_more goals i d v h e =
    ap kept_goals (take_more goals i d h)
    ∙ filter_map-append (λ goal. goal) (take i goals) (get_or goals i d ∷ [])
    ∙ ap (λ x. kept_goals (take i goals) ++ kept_goals (x ∷ [])) e

pub loop-goal-preserved : goal.loop-goal-preserved
loop-goal-preserved c =
    elim c.match-goal.branch [
      | in-Some w ↦
          let more = kept_more c.args.goals c.loop-goal.goal-index c.goal-item.result (Some w.in-Some.square) (omega arith) w.in-Some.is in
          grind (arith, common_steps)
      | in_default w ↦
          let more = kept_more c.args.goals c.loop-goal.goal-index c.goal-item.result None (omega arith) w.in_default.is in
          grind (arith, common_steps)
    ]
