-- Words in lines (PGN standard, section 4.3): at most 79 bytes a line.
use Rattle.std.specs.Prelude.{ℕ, ◌+◌, nat_le, List, [], ◌∷◌, ◌++◌, length, if◌then◌else◌}
use Rattle.pgn_lexer.specs.Bytes.{line_feed}

-- the largest number of bytes of a line
abbrev pub widest : ℕ
widest = 79

-- a line takes the next word after a space if it then has at most 79 bytes; else it ends, and the word begins the next
-- line
unfoldable pub filled : List ℕ → List (List ℕ) → List ℕ
filled line [] = line ++ line_feed ∷ []
filled line (w ∷ ws) =
    if nat_le (length line + 1 + length w) widest then filled (line ++ (32 ∷ w)) ws else line ++ (line_feed ∷ filled w ws)

-- the lines of some words; a word of more than 79 bytes has its own line
abbrev pub lines : List (List ℕ) → List ℕ
lines [] = []
lines (w ∷ ws) = filled w ws
