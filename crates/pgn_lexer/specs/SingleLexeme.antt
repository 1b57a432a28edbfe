-- The bytes that may continue a lexeme, and the texts that are read as one lexeme, whatever comes later.
use Rattle.std.specs.Prelude.{◌≡◌, ℕ, Bool, true, false, not, ◌==◌, ◌||◌, List, [], ◌∷◌, length}
use Rattle.std.specs.Char.{is_ascii_digit}
use Rattle.cq_common.specs.Text.{is_white}
use Rattle.pgn_lexer.specs.Bytes.{exclamation_mark, question_mark, hyphen, ends_line, continues_symbol}
use Rattle.pgn_lexer.specs.Readings.{reading}
use Rattle.pgn_lexer.specs.declared.token.LexemeKind.{LexemeKind}
use Rattle.pgn_lexer.specs.declared.token.LexemeKind.TheVariants.{EscapeLine, Token}
use Rattle.pgn_lexer.specs.declared.token.TokenKind.TheVariants.{Symbol, Nag, LineComment, BadByte, UnclosedComment, UnclosedText}

-- True if a byte that follows a lexeme of this kind may continue it. A line, and a string without its quote, continue
-- to the line's end. A comment without its brace continues over all that follows.
abbrev pub goes_on : LexemeKind → ℕ → Bool
goes_on EscapeLine b = not (ends_line b)
goes_on (Token Symbol) b = continues_symbol b
goes_on (Token (Nag n)) b = is_ascii_digit b || b == exclamation_mark || b == question_mark
goes_on (Token LineComment) b = not (ends_line b)
goes_on (Token BadByte) b = is_ascii_digit b || b == hyphen
goes_on (Token UnclosedComment) b = true
goes_on (Token UnclosedText) b = not (ends_line b)
goes_on _ b = false

-- true if a lexeme of this kind continues over white space
abbrev pub runs_on : LexemeKind → Bool
runs_on EscapeLine = true
runs_on (Token LineComment) = true
runs_on (Token UnclosedComment) = true
runs_on (Token UnclosedText) = true
runs_on _ = false

-- nothing follows a lexeme of this kind, or a byte that doesn't continue it
abbrev pub IsEndedBy : LexemeKind → List ℕ → Type 0
IsEndedBy kind [] = Unit {0}
IsEndedBy kind (b ∷ bs) = goes_on kind b ≡ false

-- a text that is read as one lexeme of this kind if nothing follows
pub record IsReadWhole (first : Bool) (kind : LexemeKind) (b : ℕ) (bs : List ℕ) : Type 0 where
  pub dark : is_white b ≡ false
  pub reads : reading first b bs ≡ record { kind = kind; len = length (b ∷ bs) }
