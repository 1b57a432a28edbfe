use Rattle.cql_syntax.specs.Limits.{most_open}
use Rattle.cql_parser.proofs.Answer.{at_most_one}
use Rattle.cql_parser.proofs.laws.tokens_spell_at_most_one_query.Goals as goal

pub returns : goal.returns
returns c = at_most_one most_open
