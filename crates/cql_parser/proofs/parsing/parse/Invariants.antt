use Rattle.std.proofs.Common.{take}
use Rattle.cql_parser.proofs.Reading.{Keeps}
use Rattle.cql_parser.proofs.parsing.parse.Given as goal

abbrev pub invariant-loop-token : goal.invariant-loop-token
invariant-loop-token l = Keeps (take l.token-index l.fn.tokens) l.reached l.reader
