-- The eight directions of the board, as White sees it.
use Rattle.std.specs.Prelude.{ℕ, ◌==◌, Bool, true, ℤ, pos, negsuc, Option, Some, None}
use Rattle.std.specs.Ordering.{nat_cmp}
use Rattle.std.specs.declared.cmp.Ordering.{Ordering}
use Rattle.std.specs.declared.cmp.Ordering.TheVariants.{Less, Equal, Greater}
use Rattle.cq_geometry.specs.declared.compass.Compass.{Compass}
use Rattle.cq_geometry.specs.declared.compass.Compass.TheVariants.{Up, Down, Left, Right, Northeast, Northwest, Southeast, Southwest}
use Rattle.cq_geometry.specs.Squares.{file_of, rank_of}
use Rattle.cq_geometry.specs.Steps.{files_apart, ranks_apart}

-- the number of files that one step goes to the right
abbrev pub files_of : Compass → ℤ
files_of Up = pos 0
files_of Down = pos 0
files_of Left = negsuc 0
files_of Right = pos 1
files_of Northeast = pos 1
files_of Northwest = negsuc 0
files_of Southeast = pos 1
files_of Southwest = negsuc 0

-- the number of ranks that one step goes up
abbrev pub ranks_of : Compass → ℤ
ranks_of Up = pos 1
ranks_of Down = negsuc 0
ranks_of Left = pos 0
ranks_of Right = pos 0
ranks_of Northeast = pos 1
ranks_of Northwest = pos 1
ranks_of Southeast = negsuc 0
ranks_of Southwest = negsuc 0

-- a direction by the order of the files, the order of the ranks, and whether both are equally far apart
abbrev pub direction_by : Ordering → Ordering → Bool → Option Compass
direction_by Equal Less _ = Some Up
direction_by Equal Greater _ = Some Down
direction_by Greater Equal _ = Some Left
direction_by Less Equal _ = Some Right
direction_by Less Less true = Some Northeast
direction_by Greater Less true = Some Northwest
direction_by Less Greater true = Some Southeast
direction_by Greater Greater true = Some Southwest
direction_by _ _ _ = None

-- the direction from one square to another of the same file, rank or diagonal
unfoldable pub direction_to : ℕ → ℕ → Option Compass
direction_to a b =
    direction_by (nat_cmp (file_of a) (file_of b)) (nat_cmp (rank_of a) (rank_of b)) (files_apart a b == ranks_apart a b)
