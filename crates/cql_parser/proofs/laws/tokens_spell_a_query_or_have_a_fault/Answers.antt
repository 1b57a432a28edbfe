use Rattle.cql_parser.proofs.Reading.{has_outcome}
use Rattle.cql_parser.proofs.laws.tokens_spell_a_query_or_have_a_fault.Goals as goal

pub returns : goal.returns
returns c = has_outcome
