use Rattle.std.proofs.Common.{◌<◌, rules, sym, ◌∙◌}
use Rattle.cq_moves.proofs.Targets.{twice_marks, twice_blocked}
use Rattle.cq_moves.proofs.goals.passed_goal.Goals as goal

pub returns-then-are_empty : goal.returns-then-are_empty
returns-then-are_empty c =
    let low : c.args.from < 64 = search rules in
    let free = rw c.middle.ensures at (sym c.are_empty.ensures ∙ c.if-are_empty.true) in
    twice_marks c.args.position.now c.args.from c.args.goal _ low c.requires free c.set_of.ensures

pub returns-else-are_empty : goal.returns-else-are_empty
returns-else-are_empty c =
    let low : c.args.from < 64 = search rules in
    let blocked = rw c.middle.ensures at (sym c.are_empty.ensures ∙ c.if-are_empty.false) in
    twice_blocked c.args.position.now c.args.from c.args.goal low c.requires blocked
