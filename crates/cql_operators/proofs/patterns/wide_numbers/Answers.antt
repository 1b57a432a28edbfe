use Rattle.std.proofs.Common.{◌∙◌, ap, arith, map}
use Rattle.std.specs.Prelude.{option_map, pos}
use Rattle.cql_columns.proofs.Chains.{take_whole}
use Rattle.cql_operators.proofs.LinesLaw.{wide_more}
use Rattle.cql_operators.proofs.patterns.wide_numbers.Goals as goal

pub loop-number-preserved : goal.loop-number-preserved
loop-number-preserved c =
    wide_more c.args.numbers.now c.loop-number.number-index _ c.wide_number.result c.loop-number.wide.items c.push.new.self.items
    c.loop-number-test.true c.wide_number.ensures c.in_ok-push.ensures.items c.loop-number.invariant

pub returns : goal.returns
returns c =
    c.loop-number.invariant
    ∙ ap (map (option_map pos)) (take_whole c.args.numbers.now c.loop-number.number-index (omega (arith, c.loop-number-test.false)))
