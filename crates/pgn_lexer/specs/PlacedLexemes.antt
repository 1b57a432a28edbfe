-- A lexeme of the code as a lexeme of the definitions.
use Rattle.std.specs.Prelude.{ℕ, ◌+◌}
use Rattle.pgn_lexer.specs.Lexemes.{Lexeme}
use Rattle.pgn_lexer.specs.declared.lexeme.Lexeme.{Lexeme as Found}

-- `start` is the place of the first of the bytes in the archive
abbrev pub placed_lexeme : ℕ → Found → Lexeme
placed_lexeme start l = record { at = start + l.at; first = l.first; text = l.text.now; kind = l.kind }
