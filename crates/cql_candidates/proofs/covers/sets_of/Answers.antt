use Rattle.std.proofs.Common.{◌∙◌, arith, false}
use Rattle.cql_syntax.specs.Values.{has}
use Rattle.cql_columns.specs.Columns.{shown}
use Rattle.cql_columns.proofs.Filling.{any_default, past, put_none, put_more, put_all, of_squares}
use Rattle.cql_candidates.proofs.covers.sets_of.Goals as goal

pub loop-n-init : goal.loop-n-init
loop-n-init c = put_none of_squares c.args.live.now _ _ _ _ c.in_ok-sets.ensures (past c.args.live.now) (λ n low. absurd (omega (arith, low)))

pub loop-n-preserved : goal.loop-n-preserved
loop-n-preserved c =
    put_more of_squares c.args.live.now _ _ c.loop-n.n c.loop-n.sets.items c.squares_if.result c.loop-n-test.true
    (λ asked. c.squares_if.ensures (any_default c.args.live.now c.loop-n.n _ false (omega (arith, c.loop-n-test.true)) ∙ asked)) c.loop-n.invariant

pub returns : goal.returns
returns c = record {
  count = c.loop-n.invariant.count;
  each = put_all of_squares c.args.live.now (λ n. has (shown c.args.squares.now n)) _ c.loop-n.n c.loop-n.sets.items c.loop-n-test.false c.loop-n.invariant;
}
