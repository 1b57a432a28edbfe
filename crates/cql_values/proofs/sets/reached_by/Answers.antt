use Rattle.cql_syntax.specs.Values as spec
use Rattle.cql_values.proofs.Masks.{union_item}
use Rattle.cql_values.proofs.sets.reached_by.Goals as goal

pub loop-direction-preserved : goal.loop-direction-preserved
loop-direction-preserved c =
    union_item c.loop-direction.mask c.reached_along-mask.result c.args.directions.now (λ d goal. spec.leads_to c.args.m c.args.n c.args.square goal d) c.loop-direction.direction-index _
    c.loop-direction-test.true c.reached_along-mask.ensures c.loop-direction.invariant
