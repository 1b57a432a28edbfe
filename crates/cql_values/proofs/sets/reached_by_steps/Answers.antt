use Rattle.std.proofs.Common.{sym, ◌∙◌}
use Rattle.cql_values.proofs.Reaching.{step_found}
use Rattle.cql_values.proofs.sets.reached_by_steps.Goals as goal

pub returns-in-Some : goal.returns-in-Some
returns-in-Some c =
    rw c.number.ensures.value
    (step_found c.args.m c.args.n c.args.square c.args.k c.in-Some.goal c.args.direction c.in-Some.ensures.board c.if-k-m.false c.if-n-k.false (sym c.toward.ensures.goal ∙ c.in-Some.is))
