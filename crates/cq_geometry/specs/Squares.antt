-- Squares as numbers: a1 is 0, b1 is 1, a2 is 8, h8 is 63.
use Rattle.std.specs.Prelude.{◌≡◌, ℕ, ◌+◌, ◌*◌, ◌/◌, ◌%◌, List}
use Rattle.std.specs.List.{range_with_len}

-- the file from 0 (the a-file) to 7 (the h-file)
abbrev pub file_of : ℕ → ℕ
file_of square = square % 8

-- the rank from 0 (the first) to 7 (the eighth)
abbrev pub rank_of : ℕ → ℕ
rank_of square = square / 8

-- the square of a file and a rank
abbrev pub square_of : ℕ → ℕ → ℕ
square_of file rank = 8 * rank + file

-- a square is light where its file plus its rank is odd: h1 is light, a1 is dark (FIDE Laws of Chess, article 2.1)
abbrev pub IsLight : ℕ → Type 0
IsLight square = (file_of square + rank_of square) % 2 ≡ 1

-- the squares of the board, in the order of their numbers
unfoldable pub squares : List ℕ
squares = range_with_len 0 64
