use Rattle.cql_lexer.proofs.Places.{position-from_first}
use Rattle.cql_lexer.proofs.characters.find.Goals as goal

pub returns : goal.returns
returns c = position-from_first _ _ _ c.memchr.ensures
