-- Lexemes at the start of some bytes that end there, whatever follows.
use Rattle.std.specs.Prelude.{◌≡◌, ℕ, ◌+◌, ◌<◌, ◌⊎◌, Bool, true, false, List, ◌∷◌, ◌++◌, length, slice_index}
use Rattle.cq_common.specs.Text.{is_white}
use Rattle.pgn_lexer.specs.Lexemes.{lexemes, first_at}
use Rattle.pgn_lexer.specs.SingleLexeme.{runs_on}
use Rattle.pgn_lexer.specs.declared.token.Reading.{Reading}
use Rattle.pgn_lexer.specs.declared.token.LexemeKind.{LexemeKind}
use Rattle.pgn_lexer.specs.declared.token.LexemeKind.TheVariants.{Token}
use Rattle.pgn_lexer.specs.declared.token.TokenKind.TheVariants.{Open, Close, Text, Period, Star, LeftParen, RightParen, Null, Comment}
use Rattle.pgn_cut.specs.Cut.{marks}
use Rattle.pgn_cut.specs.declared.settled_lexeme.SettledLexeme.{SettledLexeme}

-- true if no byte continues a lexeme of this kind
abbrev pub is_whole : LexemeKind → Bool
is_whole (Token Open) = true
is_whole (Token Close) = true
is_whole (Token Text) = true
is_whole (Token Period) = true
is_whole (Token Star) = true
is_whole (Token LeftParen) = true
is_whole (Token RightParen) = true
is_whole (Token Null) = true
is_whole (Token Comment) = true
is_whole _ = false

-- a reading of some bytes ends there whatever follows them, and `taken` bytes are taken, with white space after it
-- unless none is needed
abbrev pub IsSettled : List ℕ → Reading → ℕ → Type 0
IsSettled bytes r taken =
    ((taken ≡ r.len + 1) × (r.len < length bytes) × (is_white (slice_index bytes r.len) ≡ true) × (runs_on r.kind ≡ false))
    ⊎ ((taken ≡ r.len) × (is_whole r.kind ≡ true))

-- these bytes are one lexeme, with white space after it or without, whatever follows
pub record IsSettledLexeme (first : Bool) (run : List ℕ) (f : SettledLexeme) : Type 0 where
  pub text : List ℕ
  pub size : length text ≡ f.len
  pub marked : f.marker ≡ marks f.kind text
  pub next : (at : ℕ) (rest : List ℕ) → lexemes at first (run ++ rest)
      ≡ record { at = at; first = first; text = text; kind = f.kind } ∷ lexemes (at + length run) (first_at first run (length run)) rest
