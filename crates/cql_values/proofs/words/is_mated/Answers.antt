use Rattle.cql_values.proofs.Mates.{mate_is}
use Rattle.cql_values.proofs.words.is_mated.Goals as goal

pub returns-then-in_check : goal.returns-then-in_check
returns-then-in_check c = mate_is c.args.position.now c.is_mate.result c.side.ensures.kept.whole c.is_mate.ensures
