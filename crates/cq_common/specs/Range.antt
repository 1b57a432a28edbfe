-- Ranges of numbers.
use Rattle.std.specs.Prelude.{ℕ, Bool, ◌&&◌, nat_le}

-- true if n is in the range from least to most; the range is empty if the least is above the most
abbrev pub is_within : (least most n : ℕ) → Bool
is_within least most n = nat_le least n && nat_le n most
