-- The texts of lexemes and tokens, as parts of their text.
use Rattle.std.specs.Prelude.{◌≡◌, ℕ, ◌+◌, ◌-◌, ◌≤◌, ◌<◌, false, List, [], ◌∷◌, length, slice_range}
use Rattle.pgn_lexer.specs.Grammar.{IsLexeme}
use Rattle.pgn_lexer.specs.Lexemes.{Lexeme, end}
use Rattle.pgn_lexer.specs.declared.token.LexemeKind.TheVariants.{Token}
use Rattle.pgn_lexer.specs.declared.token.Token.{Token as GameToken}

-- The bytes of a lexeme are those of its text at its place, and spell a lexeme of its kind. `start` is the place of the
-- text's first byte.
pub record IsSpelled (start : ℕ) (bytes : List ℕ) (l : Lexeme) : Type 0 where
  pub slice : l.text ≡ slice_range bytes (l.at - start) (end l - start)
  pub kind : IsLexeme l.first l.kind l.text

-- the bytes of a token
abbrev pub token_text : ℕ → List ℕ → GameToken → List ℕ
token_text start bytes t = slice_range bytes (t.at - start) (t.at + t.len - start)

-- the place of a token in its text: it has some of the text's bytes, and they spell one of its kind
pub record IsTokenOf (start : ℕ) (bytes : List ℕ) (t : GameToken) : Type 0 where
  pub from_start : start ≤ t.at
  pub some : 0 < t.len
  pub to_end : t.at + t.len ≤ start + length bytes
  pub spelled : IsLexeme false (Token t.kind) (token_text start bytes t)

-- tokens are in order from a place on: each begins at the end of the one before it, or after that
abbrev pub AreTokensInOrder : ℕ → List GameToken → Type 0
AreTokensInOrder from [] = Unit {0}
AreTokensInOrder from (t ∷ ts) = (from ≤ t.at) × AreTokensInOrder (t.at + t.len) ts
