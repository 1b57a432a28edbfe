use Rattle.cql_values.proofs.Tagged.{IsNumberSoFar}
use Rattle.cql_values.proofs.headers.number_of.Given as goal

abbrev pub invariant-loop-digit : goal.invariant-loop-digit
invariant-loop-digit l = IsNumberSoFar l.text l.digit-index l.number
