use Rattle.cql_parser.proofs.Faults.{at_most_one_fault}
use Rattle.cql_parser.proofs.laws.tokens_have_at_most_one_fault.Goals as goal

pub returns : goal.returns
returns c = at_most_one_fault
