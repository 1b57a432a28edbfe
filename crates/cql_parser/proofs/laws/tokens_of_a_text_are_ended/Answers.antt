use Rattle.std.proofs.Common.{length}
use Rattle.cql_parser.proofs.Faults.{ended_once}
use Rattle.cql_parser.proofs.laws.tokens_of_a_text_are_ended.Goals as goal

pub returns : goal.returns
returns c = λ text tokens is. ended_once (length text) tokens (c.tokens_end_once.ensures text tokens is)
