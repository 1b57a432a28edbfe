use Rattle.cql_syntax.specs.Values as spec
use Rattle.cql_values.specs.ValueModel.{as_value}
use Rattle.cql_values.proofs.Masks.{union_step}
use Rattle.cql_values.proofs.sets.union.Goals as goal

pub loop-value-preserved : goal.loop-value-preserved
loop-value-preserved c =
    union_step c.loop-value.mask c.squares-mask.result c.args.values.now (λ v. spec.has (as_value v)) c.loop-value.value-index _ c.loop-value-test.true c.squares-mask.ensures c.loop-value.invariant
