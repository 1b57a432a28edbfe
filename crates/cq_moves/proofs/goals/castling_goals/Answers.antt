use Rattle.std.proofs.Common.{sym, ◌∙◌}
use Rattle.cq_moves.proofs.Targets.{castled_marks, castled_nowhere}
use Rattle.cq_moves.proofs.goals.castling_goals.Goals as goal

pub returns-then-castles : goal.returns-then-castles
returns-then-castles c =
    let told = rw c.side.ensures.side at c.castling_goal-goal.ensures in
    castled_marks c.args.position.now c.args.from _ c.args.kingside _ (sym told) (sym c.castles.ensures ∙ c.if-castles.true) c.set_of.ensures

pub returns-else-castles : goal.returns-else-castles
returns-else-castles c =
    let told = rw c.side.ensures.side at c.castling_goal-goal.ensures in
    castled_nowhere c.args.position.now c.args.from _ c.args.kingside (sym told) (sym c.castles.ensures ∙ c.if-castles.false)
