-- The lexemes of a text, taken off its front one after the other, and the tokens among them.
use Rattle.std.specs.Prelude.{ℕ, zero, suc, ◌+◌, ◌-◌, Bool, List, [], ◌∷◌, length, take, drop, slice_index, if◌then◌else◌}
use Rattle.std.specs.List.{flat_map}
use Rattle.cq_common.specs.Text.{is_white}
use Rattle.pgn_lexer.specs.Bytes.{ends_line}
use Rattle.pgn_lexer.specs.Readings.{reading}
use Rattle.pgn_lexer.specs.declared.token.LexemeKind.{LexemeKind}
use Rattle.pgn_lexer.specs.declared.token.LexemeKind.TheVariants.{EscapeLine, Token}
use Rattle.pgn_lexer.specs.declared.token.Token.{Token as GameToken}

-- a lexeme: its place, `first` (true if its first byte is in the first column), its bytes and its kind
pub record Lexeme : Type 0 where
  pub at : ℕ
  pub first : Bool
  pub text : List ℕ
  pub kind : LexemeKind

-- the place after a lexeme
abbrev pub end : Lexeme → ℕ
end l = l.at + length l.text

-- the lexeme at a place: the longest reading of the byte there and the bytes after it
abbrev pub lexeme : ℕ → Bool → ℕ → List ℕ → Lexeme
lexeme at first b rest =
    record { at = at; first = first; text = take (reading first b rest).len (b ∷ rest); kind = (reading first b rest).kind }

-- The lexemes of a text whose first `inside` bytes belong to the lexeme before. `at` is the place of its first byte,
-- and `first` is true if that byte is in the first column. Any other byte is in the first column if it follows LF.
unfoldable pub lexemes_from : List ℕ → (inside : ℕ) → (at : ℕ) → (first : Bool) → List Lexeme
lexemes_from [] inside at first = []
lexemes_from (b ∷ bs) (suc inside) at first = lexemes_from bs inside (at + 1) (ends_line b)
lexemes_from (b ∷ bs) zero at first =
    if is_white b then lexemes_from bs 0 (at + 1) (ends_line b)
    else lexeme at first b bs ∷ lexemes_from bs ((reading first b bs).len - 1) (at + 1) (ends_line b)

-- the lexemes of a text
abbrev pub lexemes : ℕ → Bool → List ℕ → List Lexeme
lexemes start first bytes = lexemes_from bytes 0 start first

-- the same lexeme, n bytes further on
abbrev pub moved : ℕ → Lexeme → Lexeme
moved n l = record { at = l.at + n; first = l.first; text = l.text; kind = l.kind }

-- true if the byte at a place of a text is in the first column; `first` is the value for the first byte
abbrev pub first_at : (first : Bool) → List ℕ → ℕ → Bool
first_at first bytes zero = first
first_at first bytes (suc before) = ends_line (slice_index bytes before)

-- the lexemes that begin at a place of a text or after it, if no lexeme crosses that place
abbrev pub lexemes_at : ℕ → Bool → List ℕ → ℕ → List Lexeme
lexemes_at start first bytes place = lexemes_from (drop place bytes) 0 (start + place) (first_at first bytes place)

-- a lexeme as tokens of a game: an escape line gives none
abbrev pub token_if : ℕ → ℕ → LexemeKind → List GameToken
token_if at len EscapeLine = []
token_if at len (Token kind) = record { at = at; len = len; kind = kind } ∷ []

abbrev pub token_of : Lexeme → List GameToken
token_of l = token_if l.at (length l.text) l.kind

-- the tokens among some lexemes
abbrev pub tokens_among : List Lexeme → List GameToken
tokens_among = flat_map token_of

-- the tokens of a text: its lexemes without escape lines
abbrev pub tokens_of : ℕ → Bool → List ℕ → List GameToken
tokens_of start first bytes = tokens_among (lexemes start first bytes)
