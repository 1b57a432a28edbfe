-- White space, the same in PGN and in queries.
use Rattle.std.specs.Prelude.{ℕ, Bool, ◌==◌, ◌||◌}
use Rattle.std.specs.Int.{is_in_range}

-- true of white space: tab, line feed, vertical tab, form feed, carriage return and the space
abbrev pub is_white : ℕ → Bool
is_white b = is_in_range 9 13 b || b == 32
