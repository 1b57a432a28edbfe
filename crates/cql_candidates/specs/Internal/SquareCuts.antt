-- A set from which squares are removed, as the private functions make it.
use Rattle.std.specs.Prelude.{◌≡◌, ℕ, Bool, true}
use Rattle.cq_symmetry.specs.Images.{is_in}

-- one set, from which some squares are removed
pub record IsCut (asked : Bool) (Q : ℕ → Type 0) (old new : ℕ) : Type 0 where
  pub within : (s : ℕ) → is_in new s ≡ true → is_in old s ≡ true
  pub keeps : (s : ℕ) → asked ≡ true → Q s → is_in old s ≡ true → is_in new s ≡ true
