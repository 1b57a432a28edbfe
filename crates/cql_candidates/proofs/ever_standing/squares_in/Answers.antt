use Rattle.std.proofs.Common.{arith, ap, sym, get_or}
use Rattle.cq_symmetry.specs.Images.{is_in}
use Rattle.cql_values.specs.ValueModel.{as_value}
use Rattle.cql_values.specs.declared.value.Value.TheVariants.{Set}
use Rattle.cql_columns.proofs.Wanting.{wanted_none, wanted_more, wanted_all}
use Rattle.cql_candidates.proofs.ever_standing.squares_in.Goals as goal

pub loop-n-init : goal.loop-n-init
loop-n-init c = wanted_none (λ n. as_value (Set (get_or c.args.sets.now n 0))) c.args.live.now _

pub loop-n-preserved : goal.loop-n-preserved
loop-n-preserved c =
    wanted_more (λ n. as_value (Set (get_or c.args.sets.now n 0))) c.args.live.now c.loop-n.n c.loop-n.squares c.set_at-squares.result
    (λ asked. ap is_in (sym c.set_at-squares.ensures)) c.loop-n.invariant

pub returns : goal.returns
returns c =
    wanted_all (λ n. as_value (Set (get_or c.args.sets.now n 0))) c.args.live.now c.loop-n.n c.loop-n.squares (omega (arith, c.loop-n-test.false)) c.loop-n.invariant
