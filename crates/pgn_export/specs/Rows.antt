-- Words in rows.
use Rattle.std.specs.Prelude.{◌≡◌, ℕ, ◌<◌, ◌≤◌, ◌⊎◌, List, [], ◌∷◌, ◌++◌, length}
use Rattle.std.specs.List.{AllByRecursion, flat_map, join_with_byte}
use Rattle.pgn_lexer.specs.Bytes.{line_feed}
use Rattle.pgn_export.specs.Lines.{widest}

-- a row of words: single spaces between them, and LF
abbrev pub row_of_words : List (List ℕ) → List ℕ
row_of_words row = join_with_byte 32 row ++ line_feed ∷ []

-- a row has a word, and is wide enough for its words or has a single one
abbrev pub IsFitting : List (List ℕ) → Type 0
IsFitting row = (0 < length row) × ((length (join_with_byte 32 row) ≤ widest) ⊎ (length row ≡ 1))

-- A text is these words in rows, in their order, each row with a word in it, and of at most 79 bytes or a single word.
pub record AreInRows (words : List (List ℕ)) (text : List ℕ) : Type 0 where
  pub rows : List (List (List ℕ))
  pub all : flat_map (λ row. row) rows ≡ words
  pub written : text ≡ flat_map row_of_words rows
  pub fitting : AllByRecursion IsFitting rows
