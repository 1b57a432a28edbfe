-- The greatest lengths at one node, from those below it, as the private functions give them.
use Rattle.std.specs.Prelude.{◌==◌, ◌≤◌, ◌<◌, ℕ, zero, suc, max, Bool, true, false, if◌then◌else◌, List, get_or}
use Rattle.std.specs.Int.{bit_at}
use Rattle.cql_lines.specs.declared.automaton.Transition.{Transition}

abbrev pub is_set : ℕ → ℕ → Bool
is_set mask i = bit_at mask i == 1

-- the greatest value of those of the first count places that are in the mask
abbrev pub greatest_in : ℕ → (ℕ → ℕ) → ℕ → ℕ
greatest_in mask values zero = 0
greatest_in mask values (suc j) = if is_set mask j then max (greatest_in mask values j) (values j) else greatest_in mask values j

-- one node more than the greatest length after it; 1 if there is none and the path may end here
abbrev pub farther : Bool → ℕ → ℕ
farther true zero = 1
farther false zero = 0
farther ends (suc m) = suc (suc m)

abbrev pub place_value : Transition → ℕ → (ℕ → ℕ) → ℕ → ℕ
place_value r held below count = if is_set held r.atom then farther r.after.ends (greatest_in r.after.places below count) else 0

abbrev pub at : List ℕ → ℕ → ℕ
at row j = get_or row j 0

-- m is the greatest of the numbers, all above 0, or 0 if there is none
pub record IsGreatestOrZero (P : ℕ → Type 0) (m : ℕ) : Type 0 where
  pub bounds : (k : ℕ) → P k → k ≤ m
  pub reached : 0 < m → P m
