use Rattle.std.proofs.Common.{ap, ◌∙◌, arith}
use Rattle.std.specs.List.{position_or_len}
use Rattle.std.proofs.lemmas.List.{take_rest}
use Rattle.pgn_lexer.specs.Readings.{is_special}
use Rattle.pgn_lexer.proofs.Bodies.{reaches_first, reaches_next, reached_end, reached_special}
use Rattle.pgn_lexer.proofs.reading.body_len.Goals as goal

pub loop-at-init : goal.loop-at-init
loop-at-init c = reaches_first c.args.rest.now c.plain_len-at.result c.plain_len-at.ensures.value

pub loop-at-preserved : goal.loop-at-preserved
loop-at-preserved c =
    let after = c.after_backslash-after.ensures in
    let within = after.within in
    let reached = c.loop-at.invariant.body in
    let goes = after.goes_on c.if-rest-at-eq92.true in
    reaches_next c.args.rest.now c.after_backslash-after.result c.plain_len.result within.1
    (c.plain_len.ensures.value ∙ ap (position_or_len is_special) (take_rest c.args.rest.now c.after_backslash-after.result)) (omega arith)

pub returns-else-rest-at-eq92-clause-value : goal.returns-else-rest-at-eq92-clause-value
returns-else-rest-at-eq92-clause-value c = reached_special c.args.rest.now c.loop-at.at c.loop-at.invariant c.loop-at-test.true c.if-rest-at-eq92.false

pub returns-after-loop-at-clause-value : goal.returns-after-loop-at-clause-value
returns-after-loop-at-clause-value c = reached_end c.args.rest.now c.loop-at.at c.loop-at.invariant (let past = c.loop-at-test.false in omega arith)
