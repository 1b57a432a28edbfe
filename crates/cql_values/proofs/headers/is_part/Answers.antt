use Rattle.std.proofs.Common.{◌∙◌}
use Rattle.cql_values.proofs.Tagged.{part_found}
use Rattle.cql_values.proofs.headers.is_part.Goals as goal

pub returns : goal.returns
returns c = c.is_some.ensures ∙ part_found c.args.text.now c.args.whole.now c.find.result c.find.ensures
