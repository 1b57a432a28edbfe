use Rattle.std.proofs.Common.{◌≡◌, drop}
use Rattle.cql_syntax.specs.Contexts as spec
use Rattle.cql_images.proofs.contexts.outcome_image.Given as goal

abbrev pub invariant-loop-mapping : goal.invariant-loop-mapping
invariant-loop-mapping l = spec.outcome_image (drop l.mapping-index l.context) l.image ≡ spec.outcome_image l.context l.fn.outcome
