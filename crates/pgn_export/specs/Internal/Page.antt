-- The growth of the text of a game by words, as the private functions give it.
use Rattle.std.specs.Prelude.{ℕ, ◌+◌, ◌-◌, nat_le, List, ◌∷◌, ◌++◌, length, slice_set, if◌then◌else◌}
use Rattle.std.specs.List.{fold}
use Rattle.pgn_lexer.specs.Bytes.{line_feed}
use Rattle.pgn_export.specs.Internal.Column.{gap, next_column}
use Rattle.pgn_export.specs.Lines.{widest}

-- the text, the number of bytes of its last line, and the place of the byte before its last word
pub record Page : Type 0 where
  pub text : List ℕ
  pub column : ℕ
  pub gap : ℕ

-- after complete lines the first word begins a new one
abbrev pub after_lines : List ℕ → Page
after_lines text = record { text = text; column = widest; gap = 0 }

-- one more word, after a space or in a new line
unfoldable pub with_word : Page → List ℕ → Page
with_word p w = record { text = p.text ++ (gap p.column w ∷ w); column = next_column p.column w; gap = length p.text }

abbrev pub with_words : Page → List (List ℕ) → Page
with_words p ws = fold with_word p ws

-- the last word in a new line
abbrev pub with_last_in_new_line : Page → Page
with_last_in_new_line p =
    record { text = slice_set p.text p.gap line_feed; column = length p.text - p.gap - 1; gap = p.gap }

-- more bytes at the end of the last word, which moves to a new line if there is no room for them
unfoldable pub with_longer_word : Page → List ℕ → Page
with_longer_word p more =
    if nat_le (p.column + length more) widest then record { text = p.text ++ more; column = p.column + length more; gap = p.gap }
    else with_last_in_new_line (record { text = p.text ++ more; column = p.column; gap = p.gap })
