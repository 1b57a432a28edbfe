-- The squares that steps in a direction reach.
use Rattle.std.proofs.Common.{◌≡◌, ℕ, ◌+◌, ◌-◌, ◌*◌, ◌%◌, ◌^◌, ◌<◌, ◌≤◌, true, ◌&&◌, nat_le, refl, sym, ap, ◌∙◌, arith, inl, inr, ℤ, pos, negsuc, ◌+ℤ◌, ◌*ℤ◌, Option, Some, None}
use Rattle.std.specs.Prelude.{◌≤ℤ◌, option_map, option_and_then}
use Rattle.std.specs.List.{list_any, range_with_len}
use Rattle.std.proofs.lemmas.Bool.{cases_lt, le-ltb}
use Rattle.std.proofs.lemmas.Int.{ints}
use Rattle.std.proofs.lemmas.Bool.Decides.{nat_tests}
use Rattle.cq_geometry.specs.Squares.{file_of, rank_of, square_of}
use Rattle.cq_geometry.specs.Steps.{on_board, square_on_board, steps_away}
use Rattle.cq_geometry.specs.Directions.{files_of, ranks_of}
use Rattle.cq_geometry.specs.declared.compass.Compass.{Compass}
use Rattle.cq_geometry.specs.declared.compass.Compass.TheVariants.{Up, Down, Left, Right, Northeast, Northwest, Southeast, Southwest}
use Rattle.cq_position.specs.Bitboards.{IsBitboard}
use Rattle.cq_position.proofs.Marked.{marks_one, marks_same}
use Rattle.cq_symmetry.specs.Images.{is_square}
use Rattle.cql_syntax.specs.Values.{leads_to}
use Rattle.cql_values.specs.Internal.Squares.{is_step_to}
use Rattle.cql_values.proofs.Ranges.{same_truth, left, right, both, from_range, in_range}

off_high : (z : ℤ) → pos 8 ≤ℤ z → on_board z ≡ None
off_high (pos n) h = let far : 8 ≤ n = omega (arith, ints, h) in rw (le-ltb n 8 far) refl
off_high (negsuc n) h = refl

off_low : (z : ℤ) → z ≤ℤ negsuc 0 → on_board z ≡ None
off_low (pos n) h = absurd (omega (arith, ints, h))
off_low (negsuc n) h = refl

no_file : (f r : ℤ) → on_board f ≡ None → square_on_board f r ≡ None
no_file f r e = ap (λ o. option_and_then (λ a. option_map (λ b. square_of a b) (on_board r)) o) e

none_left : (o : Option ℕ) → option_and_then (λ a. option_map (λ b. square_of a b) None) o ≡ None
none_left None = refl
none_left (Some a) = refl

no_rank : (f r : ℤ) → on_board r ≡ None → square_on_board f r ≡ None
no_rank f r e = ap (λ p. option_and_then (λ a. option_map (λ b. square_of a b) p) (on_board f)) e ∙ none_left (on_board f)

more : (x k : ℕ) → 8 ≤ k → pos 8 ≤ℤ (pos x +ℤ (pos k *ℤ pos 1))
more x k far = omega (arith, ints, far)

less : (x k : ℕ) → x < 8 → 8 ≤ k → (pos x +ℤ (pos k *ℤ negsuc 0)) ≤ℤ negsuc 0
less x k low far = omega (arith, ints, low, far)

file_low : (s : ℕ) → file_of s < 8
file_low s = omega arith

rank_low : (s : ℕ) → s < 64 → rank_of s < 8
rank_low s h = omega (arith, h)

file_after : Compass → ℕ → ℕ → ℤ
file_after c s k = pos (file_of s) +ℤ (pos k *ℤ files_of c)

rank_after : Compass → ℕ → ℕ → ℤ
rank_after c s k = pos (rank_of s) +ℤ (pos k *ℤ ranks_of c)

by_file : (c : Compass) (s k : ℕ) → on_board (file_after c s k) ≡ None → steps_away (files_of c) (ranks_of c) s k ≡ None
unfolding file_after
by_file c s k e = no_file (pos (file_of s) +ℤ (pos k *ℤ files_of c)) (pos (rank_of s) +ℤ (pos k *ℤ ranks_of c)) e

by_rank : (c : Compass) (s k : ℕ) → on_board (rank_after c s k) ≡ None → steps_away (files_of c) (ranks_of c) s k ≡ None
unfolding rank_after
by_rank c s k e = no_rank (pos (file_of s) +ℤ (pos k *ℤ files_of c)) (pos (rank_of s) +ℤ (pos k *ℤ ranks_of c)) e

-- more than seven steps lead off the board
pub far_away : (c : Compass) (s k : ℕ) → s < 64 → 8 ≤ k → steps_away (files_of c) (ranks_of c) s k ≡ None
unfolding file_after rank_after
far_away Up s k low far = by_rank Up s k (off_high (rank_after Up s k) (more (rank_of s) k far))
far_away Down s k low far = by_rank Down s k (off_low (rank_after Down s k) (less (rank_of s) k (rank_low s low) far))
far_away Left s k low far = by_file Left s k (off_low (file_after Left s k) (less (file_of s) k (file_low s) far))
far_away Right s k low far = by_file Right s k (off_high (file_after Right s k) (more (file_of s) k far))
far_away Northeast s k low far = by_file Northeast s k (off_high (file_after Northeast s k) (more (file_of s) k far))
far_away Northwest s k low far = by_file Northwest s k (off_low (file_after Northwest s k) (less (file_of s) k (file_low s) far))
far_away Southeast s k low far = by_file Southeast s k (off_high (file_after Southeast s k) (more (file_of s) k far))
far_away Southwest s k low far = by_file Southwest s k (off_low (file_after Southwest s k) (less (file_of s) k (file_low s) far))

on_board_only : (c : Compass) (s goal k : ℕ) → s < 64 → is_square (steps_away (files_of c) (ranks_of c) s k) goal ≡ true → k < 8
on_board_only c s goal k low e = elim (cases_lt k 8) [
  | inl near ↦ near
  | inr far ↦ absurd (let none = ap (λ o. is_square o goal) (far_away c s k low far) in cc)
]

le_test : (a b : ℕ) → a ≤ b → nat_le a b ≡ true
le_test a b h = grind (arith, nat_tests)

le_holds : (a b : ℕ) → nat_le a b ≡ true → a ≤ b
le_holds a b h = grind (arith, nat_tests)

-- the first eight numbers of steps have all that lead to a square
pub leads_near : (m n s goal : ℕ) (c : Compass) → s < 64 → list_any (λ k. is_step_to m n s c k goal) (range_with_len 0 8) ≡ leads_to m n s goal c
leads_near m n s goal c low =
    let leads = λ (k : ℕ). is_square (steps_away (files_of c) (ranks_of c) s k) goal in
    same_truth (list_any (λ k. is_step_to m n s c k goal) (range_with_len 0 8)) (leads_to m n s goal c)
    (λ e. let f = from_range (λ k. is_step_to m n s c k goal) 0 8 e in
    let allowed = left (nat_le m f.k && nat_le f.k n) (leads f.k) f.passes in
    let low' = le_holds m f.k (left (nat_le m f.k) (nat_le f.k n) allowed) in
    let high = le_holds f.k n (right (nat_le m f.k) (nat_le f.k n) allowed) in
    in_range leads m (n + 1 - m) f.k low' (omega (arith, low', high)) (right (nat_le m f.k && nat_le f.k n) (leads f.k) f.passes))
    (λ e. let f = from_range leads m (n + 1 - m) e in
    let near = on_board_only c s goal f.k low f.passes in
    in_range (λ k. is_step_to m n s c k goal) 0 8 f.k (omega arith) (omega (arith, near))
    (both (nat_le m f.k && nat_le f.k n) (leads f.k) (both (nat_le m f.k) (nat_le f.k n) (le_test m f.k f.low) (le_test f.k n (omega (arith, f.low, f.high)))) f.passes))

-- the square so many steps away
pub step_found : (m n s k goal : ℕ) (c : Compass) → goal < 64 → m ≤ k → k ≤ n → steps_away (files_of c) (ranks_of c) s k ≡ Some goal
    → IsBitboard (1 * 2 ^ goal % 18446744073709551616) (λ g. is_step_to m n s c k g)
step_found m n s k goal c low e f is =
    let a = le_test m k e in
    let b = le_test k n f in
    marks_same _ _ _ (λ g h. sym (ap (λ x. x && is_square (steps_away (files_of c) (ranks_of c) s k) g) (both (nat_le m k) (nat_le k n) a b) ∙ ap (λ o. is_square o g) is)) (marks_one goal low)
