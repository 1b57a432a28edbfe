use Rattle.std.proofs.Common.{◌≡◌, drop}
use Rattle.cql_syntax.specs.Contexts as spec
use Rattle.cql_images.proofs.contexts.of_image.Given as goal

abbrev pub invariant-loop-mapping : goal.invariant-loop-mapping
invariant-loop-mapping l = spec.of_image (drop l.mapping-index l.context) l.image ≡ spec.of_image l.context l.fn.of
