-- The place of a word in the lines, as the private functions give it.
use Rattle.std.specs.Prelude.{ℕ, ◌+◌, nat_le, List, length, if◌then◌else◌}
use Rattle.pgn_lexer.specs.Bytes.{line_feed}
use Rattle.pgn_export.specs.Lines.{widest}

-- the byte before a word that follows a line of `column` bytes: a space or LF
abbrev pub gap : ℕ → List ℕ → ℕ
gap column w = if nat_le (column + 1 + length w) widest then 32 else line_feed

abbrev pub next_column : ℕ → List ℕ → ℕ
next_column column w = if nat_le (column + 1 + length w) widest then column + 1 + length w else length w
