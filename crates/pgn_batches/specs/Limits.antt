-- The largest size of a game in bytes.
use Rattle.std.specs.Prelude.{ℕ, ◌^◌}

abbrev pub longest : ℕ
longest = 2 ^ 24
