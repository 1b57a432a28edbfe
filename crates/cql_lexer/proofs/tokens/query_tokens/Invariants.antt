use Rattle.std.proofs.Common.{◌-◌, length}
use Rattle.cql_lexer.proofs.Steps.{TokensLeft}
use Rattle.cql_lexer.proofs.tokens.query_tokens.Given as goal

abbrev pub invariant-loop-at : goal.invariant-loop-at
invariant-loop-at l = TokensLeft l.query l.tokens.items l.expected l.at

abbrev pub decreases-loop-at : goal.decreases-loop-at
decreases-loop-at l = length l.initial.query - l.at
