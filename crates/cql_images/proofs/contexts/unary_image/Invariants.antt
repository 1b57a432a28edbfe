use Rattle.std.proofs.Common.{◌≡◌, drop}
use Rattle.cql_syntax.specs.Contexts as spec
use Rattle.cql_images.proofs.contexts.unary_image.Given as goal

abbrev pub invariant-loop-mapping : goal.invariant-loop-mapping
invariant-loop-mapping l = spec.unary_image (drop l.mapping-index l.context) l.image ≡ spec.unary_image l.context l.fn.word
