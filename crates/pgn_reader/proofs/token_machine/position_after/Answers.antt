use Rattle.std.proofs.Common.{sym, ap, ◌∙◌}
use Rattle.std.specs.Option.{unwrap_or}
use Rattle.pgn_reader.proofs.Moves.{other_is_legal, passed_to, led_by_other}
use Rattle.pgn_reader.proofs.token_machine.position_after.Goals as goal

pub play-requires : goal.play-requires
play-requires c = (c.requires.0, other_is_legal c.args.position.now c.requires.0 c.args.step.now c.if-step.false c.requires.1)

pub returns-then-step : goal.returns-then-step
returns-then-step c =
    passed_to c.args.position.now c.requires.0 c.args.step.now c.pass.result c.if-step.true c.requires.1 c.pass.ensures.none c.pass.ensures.passes c.unwrap_or.result
    (λ x is. c.unwrap_or.ensures ∙ ap (λ o. unwrap_or o c.args.position.now) is)

pub returns-else-step : goal.returns-else-step
returns-else-step c = c.play.ensures.legal.leads ∙ sym (led_by_other c.args.position.now c.args.step.now c.if-step.false)
