use Rattle.std.proofs.Common.{◌<◌, rules, sym, ◌∙◌}
use Rattle.cq_moves.proofs.Targets.{twice_nowhere}
use Rattle.cq_moves.proofs.goals.double_goals.Goals as goal

pub returns-in-None : goal.returns-in-None
returns-in-None c =
    let low : c.args.from < 64 = search rules in
    twice_nowhere c.args.position.now c.args.from low (rw c.side.ensures.side at (sym c.double_step.ensures ∙ c.in-None.is))
