use Rattle.cql_syntax.specs.Values as spec
use Rattle.cql_values.specs.ValueModel.{as_value}
use Rattle.cql_values.proofs.Masks.{intersection_step, all_squares}
use Rattle.cql_values.proofs.sets.intersection.Goals as goal

pub loop-value-init : goal.loop-value-init
loop-value-init c = all_squares

pub loop-value-preserved : goal.loop-value-preserved
loop-value-preserved c =
    intersection_step c.loop-value.mask c.squares-mask.result c.args.values.now
    (λ v. spec.has (as_value v)) c.loop-value.value-index _ c.loop-value-test.true c.squares-mask.ensures c.loop-value.invariant
