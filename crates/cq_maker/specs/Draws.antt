-- The numbers that are drawn, by a linear congruential generator of 64 bits with the constants of Knuth's MMIX, from
-- its upper bits.
use Rattle.std.specs.Prelude.{ℕ, ◌+◌, ◌*◌, ◌/◌, ◌%◌, ◌^◌}

-- the state after x
unfoldable pub next : ℕ → ℕ
next x = (x * 6364136223846793005 + 1442695040888963407) % 2 ^ 64

-- the number that is drawn below a bound in the state x
unfoldable pub drawn : (x bound : ℕ) → ℕ
drawn x bound = (next x / 2 ^ 33) % bound
