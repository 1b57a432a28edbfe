use Rattle.std.proofs.Common.{sym, ◌∙◌}
use Rattle.cql_local.proofs.Ended.{no_ends, ends}
use Rattle.cql_local.proofs.move_ends.ends_of.Goals as goal

pub returns-then-played-clause-none : goal.returns-then-played-clause-none
returns-then-played-clause-none c = λ none.
    no_ends c.args.game.now.nodes c.args.n c.in_ok-before.before c.in_ok-m.m (sym c.parent.ensures.value ∙ c.in_ok-before.was) (sym c.move_to.ensures.value ∙ c.in_ok-m.was) c.if-played.true

pub returns-clause-some : goal.returns-clause-some
returns-clause-some c =
    ends c.args.game.now.nodes c.args.n c.in_ok-before.before c.in_ok-m.m (sym c.parent.ensures.value ∙ c.in_ok-before.was) (sym c.move_to.ensures.value ∙ c.in_ok-m.was) c.if-played.false
