use Rattle.std.proofs.Common.{ap, arith}
use Rattle.cql_plain.specs.Internal.Paths.{place_before}
use Rattle.cql_plain.proofs.path_places.comes_from.Goals as goal

pub bounds-set-reached : goal.bounds-set-reached
bounds-set-reached c = omega (arith, c.requires.steps.before c.in-Some.reached.before c.args.k (ap place_before c.in-Some.is))
