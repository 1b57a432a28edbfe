-- Sets of squares as numbers of 64 bits.
use Rattle.std.specs.Prelude.{◌≡◌, ℕ, ◌<◌, ◌==◌, Bool, true, false, List, Option, Some, None}
use Rattle.std.specs.List.{list_any}
use Rattle.std.specs.Int.{bit_at}

abbrev pub bit_of : Bool → ℕ
bit_of true = 1
bit_of false = 0

-- bit k is set exactly if the square k passes the test
pub record IsBitboard (mask : ℕ) (test : ℕ → Bool) : Type 0 where
  pub bit : (k : ℕ) → k < 64 → bit_at mask k ≡ bit_of (test k)

-- true if the list has the square
abbrev pub contains : List ℕ → ℕ → Bool
contains xs square = list_any (λ x. x == square) xs

-- true if the optional square is this one
abbrev pub is_goal : Option ℕ → ℕ → Bool
is_goal None square = false
is_goal (Some goal) square = goal == square
