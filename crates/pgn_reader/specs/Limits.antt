-- The limits of a game.
use Rattle.std.specs.Prelude.{ℕ, ◌^◌}

-- the largest size in bytes
abbrev pub longest : ℕ
longest = 2 ^ 24

-- the largest number of moves, as the root is the first of the positions
abbrev pub most_moves : ℕ
most_moves = 65535

-- the largest number of variations open at once
abbrev pub most_levels : ℕ
most_levels = 100
