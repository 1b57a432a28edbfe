-- Counted calls, and lists of some of them by their numbers.
use Rattle.std.specs.Prelude.{ℕ, ◌+◌, ◌-◌, ◌^◌, ◌==◌, nat_lt, Bool, if◌then◌else◌, List}
use Rattle.std.specs.List.{list_any}

-- a count after one more call; it stops at the last value of a u64
abbrev pub one_more : ℕ → ℕ
one_more count = if nat_lt count (2 ^ 64 - 1) then count + 1 else count

-- true if the call with this number is in the list
abbrev pub is_listed : List ℕ → ℕ → Bool
is_listed numbers number = list_any (λ listed. listed == number) numbers
