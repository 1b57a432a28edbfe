use Rattle.cql_syntax.specs.Limits.{most_open}
use Rattle.cql_parser.proofs.NoAny.{spelled_without_any}
use Rattle.cql_parser.proofs.laws.spelled_queries_have_no_any.Goals as goal

pub returns : goal.returns
returns c = spelled_without_any most_open
