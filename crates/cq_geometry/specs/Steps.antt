-- Steps on the board by coordinates: a number of files to the right and of ranks up; negative numbers go to the left and down.
use Rattle.std.specs.Prelude.{◌≡◌, ℕ, ◌+◌, ◌-◌, max, Bool, ◌&&◌, ◌||◌, ◌==◌, nat_lt, if◌then◌else◌, ℤ, pos, negsuc, ◌+ℤ◌, ◌*ℤ◌, nat_abs, Option, Some, None, option_map, option_and_then, List, [], ◌∷◌, filter, filter_map}
use Rattle.cq_geometry.specs.Squares.{file_of, rank_of, square_of, squares}

-- a file or a rank if it is on the board
abbrev pub on_board : ℤ → Option ℕ
on_board (pos n) = if nat_lt n 8 then Some n else None
on_board (negsuc _) = None

-- the square of a file and a rank if both are on the board
abbrev pub square_on_board : ℤ → ℤ → Option ℕ
square_on_board file rank =
    option_and_then (λ f. option_map (λ r. square_of f r) (on_board rank)) (on_board file)

-- the square so many files to the right and so many ranks up, if it is on the board
abbrev pub stepped : ℤ → ℤ → ℕ → Option ℕ
stepped files ranks square =
    square_on_board (pos (file_of square) +ℤ files) (pos (rank_of square) +ℤ ranks)

-- the square n such steps away, if it is on the board
abbrev pub steps_away : ℤ → ℤ → ℕ → ℕ → Option ℕ
steps_away files ranks square n = stepped (pos n *ℤ files) (pos n *ℤ ranks) square

-- a direction goes at most one file and at most one rank, but not zero of both
abbrev pub IsDirection : ℤ → ℤ → Type 0
IsDirection files ranks = max (nat_abs files) (nat_abs ranks) ≡ 1

-- the squares one step away, two steps away and so on, up to the edge
unfoldable pub ray_from : ℤ → ℤ → ℕ → List ℕ
ray_from files ranks square =
    filter_map (steps_away files ranks square) (1 ∷ 2 ∷ 3 ∷ 4 ∷ 5 ∷ 6 ∷ 7 ∷ [])

-- the distance between two numbers, between the files of two squares, and between their ranks
abbrev pub apart : ℕ → ℕ → ℕ
apart m n = (m - n) + (n - m)

abbrev pub files_apart : ℕ → ℕ → ℕ
files_apart a b = apart (file_of a) (file_of b)

abbrev pub ranks_apart : ℕ → ℕ → ℕ
ranks_apart a b = apart (rank_of a) (rank_of b)

-- the number of moves that a king needs from one square to another on an empty board
abbrev pub distance : ℕ → ℕ → ℕ
distance a b = max (files_apart a b) (ranks_apart a b)

-- true if a king steps from one square to the other, which adjoins it (FIDE Laws of Chess, article 3.8.1)
abbrev pub is_king_step : ℕ → ℕ → Bool
is_king_step a b = distance a b == 1

-- true if a knight steps from one square to the other: two one way and one across. These are the nearest squares that are not on its rank,
-- file or diagonal (article 3.6).
abbrev pub is_knight_step : ℕ → ℕ → Bool
is_knight_step a b =
    files_apart a b == 1 && ranks_apart a b == 2 || files_apart a b == 2 && ranks_apart a b == 1

-- the squares to which a king steps, in the order of their numbers
unfoldable pub king_squares : ℕ → List ℕ
king_squares square = filter (is_king_step square) squares

-- the squares to which a knight steps, in the order of their numbers
unfoldable pub knight_squares : ℕ → List ℕ
knight_squares square = filter (is_knight_step square) squares
