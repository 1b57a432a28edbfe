-- Sets of squares as numbers of 64 bits: bit k is the square k.
use Rattle.std.specs.Prelude.{◌≡◌, ℕ, ◌<◌, ◌==◌, ◌&&◌, ◌↔◌, Bool, true, not, ℤ, nat_lt, List, [], ◌∷◌, Some}
use Rattle.std.specs.List.{list_all}
use Rattle.std.specs.Int.{bit_at}
use Rattle.cq_geometry.specs.Steps.{stepped, ray_from}
use Rattle.cq_geometry.specs.Lines.{seen}
use Rattle.cq_square_sets.specs.Bitboards.{contains}

-- the set has the square
abbrev pub Has : ℕ → ℕ → Type 0
Has set square = bit_at set square ≡ 1

abbrev pub has : ℕ → ℕ → Bool
has set square = bit_at set square == 1

-- the set has exactly the squares with this property
abbrev pub IsSetOf : ℕ → (ℕ → Type 0) → Type 0
IsSetOf set P = (square : ℕ) → square < 64 → Has set square ↔ P square

-- some square of the set leads to this one in one step
abbrev pub IsStepped : ℤ → ℤ → ℕ → ℕ → Type 0
IsStepped files ranks set to = (from : ℕ) × (from < 64) × Has set from × (stepped files ranks from ≡ Some to)

-- true if the second square is reached from the first in this direction through empty squares; it may itself be occupied
abbrev pub reaches : ℤ → ℤ → (ℕ → Bool) → ℕ → ℕ → Bool
reaches files ranks occupied from to = contains (seen occupied (ray_from files ranks from)) to

-- some square of the set reaches this one through the empty squares
abbrev pub IsSlid : ℤ → ℤ → ℕ → ℕ → ℕ → Type 0
IsSlid files ranks set empty to =
    (from : ℕ) × (from < 64) × Has set from
    × (reaches files ranks (λ square. not (has empty square)) from to ≡ true)

-- true if all squares are on the board, and each is before all that follow it in the list
abbrev pub is_in_order : (ℕ → ℕ → Bool) → List ℕ → Bool
is_in_order before [] = true
is_in_order before (square ∷ rest) = nat_lt square 64 && (list_all (before square) rest && is_in_order before rest)

-- the orders of rising and of falling numbers
abbrev pub is_below : ℕ → ℕ → Bool
is_below a b = nat_lt a b

abbrev pub is_above : ℕ → ℕ → Bool
is_above a b = nat_lt b a

abbrev pub rises : List ℕ → Bool
rises along = is_in_order is_below along

abbrev pub falls : List ℕ → Bool
falls along = is_in_order is_above along
