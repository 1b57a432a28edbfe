use Rattle.cql_values.proofs.Mates.{stalemate_is}
use Rattle.cql_values.proofs.words.is_stalemated.Goals as goal

pub returns-then-not-in_check : goal.returns-then-not-in_check
returns-then-not-in_check c = stalemate_is c.args.position.now c.is_stalemate.result c.side.ensures.kept.whole c.is_stalemate.ensures
