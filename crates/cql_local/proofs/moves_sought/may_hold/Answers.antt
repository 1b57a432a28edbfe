use Rattle.std.proofs.Common.{ap, ◌∙◌, subst}
use Rattle.std.specs.Option.{is_some}
use Rattle.std.specs.Prelude.{IfSome}
use Rattle.cql_local.specs.Internal.MovesSought.{AreMoveEnds}
use Rattle.cql_local.proofs.Seeking.{ends_allowed, no_ends_led}
use Rattle.cql_local.proofs.moves_sought.may_hold.Goals as goal

pub returns-in-Some : goal.returns-in-Some
returns-in-Some c = λ led.
    let nodes = c.args.game.now.nodes in
    let ends : AreMoveEnds nodes c.args.n c.in-Some.ends = subst (λ o. IfSome o (AreMoveEnds nodes c.args.n)) c.in-Some.is c.ends_of.ensures.some in
    c.allows_move.ensures ∙ ends_allowed c.args.moves.now nodes c.args.n c.in-Some.ends ends (led c.if-not-moves.false)

pub returns-in-None : goal.returns-in-None
returns-in-None c = λ led. absurd (no_ends_led c.args.moves.now c.args.game.now.nodes c.args.n (c.ends_of.ensures.none (ap is_some c.in-None.is)) (led c.if-not-moves.false))
