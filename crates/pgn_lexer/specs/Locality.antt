-- The places of a text that no lexeme crosses, and the lexemes between two places.
use Rattle.std.specs.Prelude.{ℕ, ◌+◌, ◌-◌, ◌≤◌, ◌<◌, ◌≡◌, ◌⊎◌, Bool, true, false, ◌&&◌, nat_le, nat_lt, List, [], ◌∷◌, ◌++◌, length, drop, filter}
use Rattle.std.specs.List.{AllByRecursion}
use Rattle.cq_common.specs.Text.{is_white}
use Rattle.pgn_lexer.specs.Readings.{reading}
use Rattle.pgn_lexer.specs.declared.token.LexemeKind.{LexemeKind}
use Rattle.pgn_lexer.specs.declared.token.LexemeKind.TheVariants.{Token}
use Rattle.pgn_lexer.specs.declared.token.TokenKind.TheVariants.{Open, Close, Period, Star, LeftParen, RightParen}
use Rattle.pgn_lexer.specs.Lexemes.{Lexeme, end, lexemes, first_at}

-- no lexeme crosses a place: each ends by it, or begins there or after it
abbrev pub IsUncrossed : ℕ → List Lexeme → Type 0
IsUncrossed place ls = AllByRecursion (λ l. (end l ≤ place) ⊎ (place ≤ l.at)) ls

-- the lexemes that begin from one place on and before another
abbrev pub within : ℕ → ℕ → List Lexeme → List Lexeme
within from to ls = filter (λ l. nat_le from l.at && nat_lt l.at to) ls

-- lexemes are in order from a place on: each has some bytes, and begins at the end of the one before it or after that
abbrev pub AreLexemesInOrder : ℕ → List Lexeme → Type 0
AreLexemesInOrder from [] = Unit {0}
AreLexemesInOrder from (l ∷ ls) = (from ≤ l.at) × (0 < length l.text) × AreLexemesInOrder (end l) ls

-- The place of a lexeme in its text: no other crosses its ends, and it has some of the text's bytes. It is in the first
-- column if its first byte is.
pub record StandsIn (start : ℕ) (first : Bool) (bytes : List ℕ) (l : Lexeme) : Type 0 where
  pub begin_uncrossed : IsUncrossed l.at (lexemes start first bytes)
  pub end_uncrossed : IsUncrossed (end l) (lexemes start first bytes)
  pub from_start : start ≤ l.at
  pub some : 0 < length l.text
  pub to_end : end l ≤ start + length bytes
  pub column : l.first ≡ first_at first bytes (l.at - start)

-- True if a lexeme that reaches the end of a text is left open: only the tokens of one byte are not. A closed comment
-- or string can't grow either, but counts as left open.
abbrev pub is_left_open : LexemeKind → Bool
is_left_open (Token Open) = false
is_left_open (Token Close) = false
is_left_open (Token Period) = false
is_left_open (Token Star) = false
is_left_open (Token LeftParen) = false
is_left_open (Token RightParen) = false
is_left_open _ = true

-- the rest of a front that is left open: nothing, or a byte whose longest reading is all of the rest, and left open
abbrev pub IsUnsettled : (first : Bool) → List ℕ → Type 0
IsUnsettled first [] = Unit {0}
IsUnsettled first (b ∷ bs) =
    (is_white b ≡ false) × ((reading first b bs).len ≡ length (b ∷ bs)) × (is_left_open (reading first b bs).kind ≡ true)

-- A front settles its lexemes up to a place: they stay, whatever follows the front. The lexemes of its open rest come
-- after them.
pub record Settles (start : ℕ) (first : Bool) (front : List ℕ) : Type 0 where
  pub settled : List Lexeme
  pub place : ℕ
  pub within : place ≤ length front
  pub stay : (more : List ℕ)
      → lexemes start first (front ++ more) ≡ settled ++ lexemes (start + place) (first_at first front place) (drop place front ++ more)
  pub unsettled : IsUnsettled (first_at first front place) (drop place front)

-- The bytes that follow a text make its first reading longer or leave it; a reading that fits into the text is that of
-- the text.
pub record Grows (first : Bool) (b : ℕ) (bs more : List ℕ) : Type 0 where
  pub longer : (reading first b bs).len ≤ (reading first b (bs ++ more)).len
  pub same : (reading first b (bs ++ more)).len ≤ length (b ∷ bs) → reading first b (bs ++ more) ≡ reading first b bs
