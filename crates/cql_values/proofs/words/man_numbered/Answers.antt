use Rattle.cql_values.proofs.MenFound.{numbered}
use Rattle.cql_values.proofs.words.man_numbered.Goals as goal

pub returns : goal.returns
returns c = numbered c.args.number c.requires _
