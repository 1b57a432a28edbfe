-- Sets of squares that are whole ranks, and sets that are whole files.
use Rattle.std.specs.Prelude.{ℕ, Bool, true, ◌&&◌, ◌==◌, if◌then◌else◌}
use Rattle.std.specs.List.{list_all}
use Rattle.cq_geometry.specs.Squares.{file_of, rank_of, squares}
use Rattle.cq_symmetry.specs.Images.{is_in}

-- true if the set has all squares of each line of which it has one
unfoldable pub is_whole : (ℕ → ℕ) → ℕ → Bool
is_whole line set =
    list_all (λ s. list_all (λ t. if line s == line t && is_in set s then is_in set t else true) squares) squares

-- true if every rank with one of the squares has all eight of them
abbrev pub are_whole_ranks : ℕ → Bool
are_whole_ranks set = is_whole rank_of set

-- true if every file with one of the squares has all eight of them
abbrev pub are_whole_files : ℕ → Bool
are_whole_files set = is_whole file_of set
