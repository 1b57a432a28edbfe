use Rattle.std.proofs.Common.{ap, ◌∙◌}
use Rattle.cql_syntax.specs.Values as spec
use Rattle.cql_values.specs.ValueModel.{as_value}
use Rattle.cql_values.proofs.Paired.{gives_squares}
use Rattle.cql_values.proofs.combine.pair_of.Goals as goal

pub returns-in-Attacks : goal.returns-in-Attacks
returns-in-Attacks c = ap spec.as_squares c.related.ensures ∙ gives_squares c.args.position.now.men c.args.pair (as_value c.args.x) (as_value c.args.y) c.in-Attacks.is
