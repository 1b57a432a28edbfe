-- Sets of lengths below 128, as the private functions give them by bits.
use Rattle.std.specs.Prelude.{ℕ, zero, suc, ◌*◌, ◌%◌, ◌<◌, ◌≤◌, if◌then◌else◌, bit_or}
use Rattle.cql_lines.specs.declared.automaton.Transition.{Transition}
use Rattle.cql_lines.specs.Places.{IsIn, when}
use Rattle.cql_lines.specs.Internal.Lengths.{is_set}

-- the bits of m are the numbers below 128 that have the property
pub record IsSet (P : ℕ → Type 0) (m : ℕ) : Type 0 where
  pub on : (k : ℕ) → k < 128 → IsIn m k → P k
  pub off : (k : ℕ) → k < 128 → P k → IsIn m k

-- each length plus one
abbrev pub shifted : ℕ → ℕ
shifted m = m * 2 % 340282366920938463463374607431768211456

-- the union of the values of those of the first count places that are in the mask
abbrev pub union_in : ℕ → (ℕ → ℕ) → ℕ → ℕ
union_in mask values zero = 0
union_in mask values (suc j) = if is_set mask j then bit_or (union_in mask values j) (values j) else union_in mask values j

abbrev pub place_set : Transition → ℕ → (ℕ → ℕ) → ℕ → ℕ
place_set r held below count = when (is_set held r.atom) (bit_or (shifted (union_in r.after.places below count)) (when r.after.ends 2))

-- those of the numbers that are from one bound to another
abbrev pub Between : ℕ → ℕ → (ℕ → Type 0) → ℕ → Type 0
Between least most P k = P k × (least ≤ k) × (k ≤ most)
