use Rattle.std.proofs.Common.{◌≡◌, ◌≤◌, ◌-◌, ◌++◌, length}
use Rattle.pgn_lexer.specs.Lexemes.{tokens_among, lexemes_at, tokens_of}
use Rattle.pgn_lexer.proofs.game.tokens.Given as goal

abbrev pub invariant-loop-lexeme : goal.invariant-loop-lexeme
invariant-loop-lexeme l = record {
  within : l.at ≤ length l.bytes;
  so_far : l.tokens.items ++ tokens_among (lexemes_at l.start l.first l.bytes l.at) ≡ tokens_of l.start l.first l.bytes;
}

abbrev pub decreases-loop-lexeme : goal.decreases-loop-lexeme
decreases-loop-lexeme l = length l.bytes - l.at
