-- The members of the families by their numbers.
use Rattle.std.proofs.Common.{◌≡◌, ℕ, ◌+◌, ◌*◌, ◌/◌, ◌%◌, ◌<◌, List, [], ◌∷◌, map, length, refl, sym, ap, ◌∙◌, arith, pos, Some}
use Rattle.std.specs.Prelude.{◌-ℤ◌, slice_get, if◌then◌else◌, ◌==◌, slice_index}
use Rattle.std.specs.List.{range_with_len}
use Rattle.std.proofs.lemmas.Option.{slice_get-get_or}
use Rattle.std.proofs.lemmas.List.FromFn.{get_or-map-range_with_len, length-map-range_with_len}
use Rattle.cq_symmetry.specs.Families.{members, turned, shifted, exchanged}
use Rattle.cq_symmetry.specs.Mappings.{PlainMapping}
use Rattle.cq_symmetry.specs.declared.families.Family.TheVariants.{Flip, Rotate90, FlipVertical, FlipHorizontal, FlipColor, Shift, ShiftHorizontal, ShiftVertical}

-- a list that a function of the place makes
at : (f : ℕ → PlainMapping) (n : ℕ) (xs : List PlainMapping) → map f (range_with_len 0 n) ≡ xs → (k : ℕ) → k < n → Some (f k) ≡ slice_get xs k
at f n xs e k lt =
    let within : k < length (map f (range_with_len 0 n)) = rw (length-map-range_with_len f 0 n) lt in
    let zero_first : 0 + k ≡ k = omega arith in
    sym (slice_get-get_or (map f (range_with_len 0 n)) k (f k) within ∙ ap Some (get_or-map-range_with_len f 0 n k k (f k) lt zero_first)) ∙ ap (λ l. slice_get l k) e

pub at_flip : (k : ℕ) → k < 8 → Some (turned (k + 1)) ≡ slice_get (members Flip) k
at_flip = at (λ k. turned (k + 1)) 8 (members Flip) refl

pub at_rotation : (k : ℕ) → k < 4 → Some (turned (slice_index (1 ∷ 7 ∷ 4 ∷ 6 ∷ []) k)) ≡ slice_get (members Rotate90) k
at_rotation = at (λ k. turned (slice_index (1 ∷ 7 ∷ 4 ∷ 6 ∷ []) k)) 4 (members Rotate90) refl

pub at_vertical : (k : ℕ) → k < 2 → Some (turned (2 * k + 1)) ≡ slice_get (members FlipVertical) k
at_vertical = at (λ k. turned (2 * k + 1)) 2 (members FlipVertical) refl

pub at_horizontal : (k : ℕ) → k < 2 → Some (turned (k + 1)) ≡ slice_get (members FlipHorizontal) k
at_horizontal = at (λ k. turned (k + 1)) 2 (members FlipHorizontal) refl

pub at_color : (k : ℕ) → k < 2 → Some (if k == 1 then exchanged else turned 1) ≡ slice_get (members FlipColor) k
at_color = at (λ k. if k == 1 then exchanged else turned 1) 2 (members FlipColor) refl

pub at_shift : (k : ℕ) → k < 225 → Some (shifted (pos (k % 15) -ℤ pos 7) (pos (k / 15) -ℤ pos 7)) ≡ slice_get (members Shift) k
at_shift = at (λ k. shifted (pos (k % 15) -ℤ pos 7) (pos (k / 15) -ℤ pos 7)) 225 (members Shift) refl

pub at_shift_horizontal : (k : ℕ) → k < 15 → Some (shifted (pos k -ℤ pos 7) (pos 0)) ≡ slice_get (members ShiftHorizontal) k
at_shift_horizontal = at (λ k. shifted (pos k -ℤ pos 7) (pos 0)) 15 (members ShiftHorizontal) refl

pub at_shift_vertical : (k : ℕ) → k < 15 → Some (shifted (pos 0) (pos k -ℤ pos 7)) ≡ slice_get (members ShiftVertical) k
at_shift_vertical = at (λ k. shifted (pos 0) (pos k -ℤ pos 7)) 15 (members ShiftVertical) refl

pub ruleset member_sets = (at_flip, at_rotation, at_vertical, at_horizontal, at_color, at_shift, at_shift_horizontal, at_shift_vertical)
