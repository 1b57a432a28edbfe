use Rattle.std.proofs.Common.{◌∙◌, sym, arith, false}
use Rattle.cql_columns.specs.Columns.{shown}
use Rattle.cql_columns.proofs.Filling.{any_default}
use Rattle.cql_columns.proofs.Wanting.{wanted_none, wanted_more, wanted_all}
use Rattle.cql_operators.proofs.squares.wanted_squares.Goals as goal

pub loop-n-init : goal.loop-n-init
loop-n-init c = wanted_none (shown c.args.squares.now) c.args.live.now _

pub loop-n-preserved : goal.loop-n-preserved
loop-n-preserved c =
    wanted_more (shown c.args.squares.now) c.args.live.now c.loop-n.n c.loop-n.wanted c.squares_if-wanted.result
    (λ asked. sym (c.squares_if-wanted.ensures (any_default c.args.live.now c.loop-n.n _ false (omega (arith, c.loop-n-test.true)) ∙ asked)))
    c.loop-n.invariant

pub returns : goal.returns
returns c = wanted_all (shown c.args.squares.now) c.args.live.now c.loop-n.n c.loop-n.wanted (omega (arith, c.loop-n-test.false)) c.loop-n.invariant
