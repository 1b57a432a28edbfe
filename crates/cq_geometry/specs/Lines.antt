-- Squares on one file, rank or diagonal.
use Rattle.std.specs.Prelude.{ℕ, ◌+◌, ◌-◌, Bool, not, ◌&&◌, ◌||◌, ◌==◌, nat_lt, if◌then◌else◌, List, [], ◌∷◌, filter, reverse}
use Rattle.std.specs.List.{list_all, list_any}
use Rattle.cq_geometry.specs.declared.compass.Compass.{Compass}
use Rattle.cq_geometry.specs.declared.compass.Compass.TheVariants.{Up, Down, Left, Right, Northeast, Northwest, Southeast, Southwest}
use Rattle.cq_geometry.specs.Steps.{ray_from}
use Rattle.cq_geometry.specs.Directions.{files_of, ranks_of}
use Rattle.cq_geometry.specs.Squares.{file_of, rank_of, squares}

-- the number of the diagonal that rises to the right, from 0 (h1 alone) to 14 (a8 alone)
abbrev pub rising_of : ℕ → ℕ
rising_of square = 7 + rank_of square - file_of square

-- the number of the diagonal that falls to the right, from 0 (a1 alone) to 14 (h8 alone)
abbrev pub falling_of : ℕ → ℕ
falling_of square = file_of square + rank_of square

-- true if three squares have the same line number, for instance the same file
abbrev pub all_same : (ℕ → ℕ) → ℕ → ℕ → ℕ → Bool
all_same line a b c = line a == line b && line b == line c

-- true if three squares are on one file, rank or diagonal
abbrev pub on_one_line : ℕ → ℕ → ℕ → Bool
on_one_line a b c =
    all_same file_of a b c || all_same rank_of a b c || all_same rising_of a b c || all_same falling_of a b c

-- true if n is strictly between m and k, in either order
abbrev pub is_inside : ℕ → ℕ → ℕ → Bool
is_inside m n k = nat_lt m n && nat_lt n k || nat_lt k n && nat_lt n m

-- true if a square is strictly between two squares of one file, rank or diagonal
abbrev pub lies_between : ℕ → ℕ → ℕ → Bool
lies_between a b square =
    on_one_line a square b
    && (is_inside (file_of a) (file_of square) (file_of b) || is_inside (rank_of a) (rank_of square) (rank_of b))

-- the squares strictly between two squares, from the first to the second; along a line the numbers rise or fall
unfoldable pub between_squares : ℕ → ℕ → List ℕ
between_squares a b =
    filter (lies_between a b) (if nat_lt a b then squares else reverse squares)

-- true if two squares are on one file or rank, as a rook's goal and its own (FIDE Laws of Chess, article 3.3)
abbrev pub is_orthogonal : ℕ → ℕ → Bool
is_orthogonal a b = not (a == b) && (file_of a == file_of b || rank_of a == rank_of b)

-- true if two squares are on one diagonal, as a bishop's goal and its own (article 3.2)
abbrev pub is_diagonal : ℕ → ℕ → Bool
is_diagonal a b = not (a == b) && (rising_of a == rising_of b || falling_of a == falling_of b)

-- the directions of a rook
abbrev pub orthogonals : List Compass
orthogonals = Up ∷ Down ∷ Left ∷ Right ∷ []

-- the directions of a bishop
abbrev pub diagonals : List Compass
diagonals = Northeast ∷ Northwest ∷ Southeast ∷ Southwest ∷ []

-- true if a square is on one of the rays from another
abbrev pub on_rays : List Compass → ℕ → ℕ → Bool
on_rays directions a b =
    list_any (λ c. list_any (λ square. square == b) (ray_from (files_of c) (ranks_of c) a)) directions

-- true if no square between two squares is occupied
abbrev pub is_open : (ℕ → Bool) → ℕ → ℕ → Bool
is_open occupied a b = list_all (λ square. not (occupied square)) (between_squares a b)

-- the squares up to and including the first occupied one
abbrev pub seen : (ℕ → Bool) → List ℕ → List ℕ
seen occupied [] = []
seen occupied (square ∷ rest) = square ∷ (if occupied square then [] else seen occupied rest)

-- true if a square is seen along one of the rays from another
abbrev pub sees : List Compass → (ℕ → Bool) → ℕ → ℕ → Bool
sees directions occupied a b =
    list_any (λ c. list_any (λ square. square == b) (seen occupied (ray_from (files_of c) (ranks_of c) a))) directions
