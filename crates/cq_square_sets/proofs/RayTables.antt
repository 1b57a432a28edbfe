-- The rays from each square, by looking at all squares.
use Rattle.std.proofs.Common.{◌≡◌, ℕ, Bool, true, ◌<◌, ℤ, pos, negsuc, List, map, get_or, refl}
use Rattle.std.specs.Int.{bit_at}
use Rattle.cq_geometry.specs.Squares.{squares}
use Rattle.cq_geometry.specs.Steps.{ray_from}
use Rattle.cq_geometry.proofs.Tables.{at_square, at_squares}
use Rattle.cq_square_sets.specs.Bitboards.{IsBitboard, bit_of, contains}
use Rattle.cq_square_sets.specs.Sets.{rises, falls}
use Rattle.cq_square_sets.specs.declared.rays.TheConstants.{UP, DOWN, LEFT, RIGHT, NORTHEAST, NORTHWEST, SOUTHEAST, SOUTHWEST}

abbrev bits_of : List ℕ → List (List ℕ)
bits_of table = map (λ a. map (λ k. bit_at (get_or table a 0) k) squares) squares

abbrev ray_bits : ℤ → ℤ → List (List ℕ)
ray_bits files ranks = map (λ a. map (λ k. bit_of (contains (ray_from files ranks a) k)) squares) squares

marked : (table : List ℕ) (files ranks : ℤ) → bits_of table ≡ ray_bits files ranks → (s : ℕ) → s < 64 → IsBitboard (get_or table s 0) (contains (ray_from files ranks s))
marked table files ranks same s low = record { bit = λ k h. at_squares (λ a k. bit_at (get_or table a 0) k) (λ a k. bit_of (contains (ray_from files ranks a) k)) same s k low h }

abbrev all_in : (List ℕ → Bool) → ℤ → ℤ → List Bool
all_in order files ranks = map (λ a. order (ray_from files ranks a)) squares

abbrev all_true : List Bool
all_true = map (λ a. true) squares

ordered : (order : List ℕ → Bool) (files ranks : ℤ) → all_in order files ranks ≡ all_true → (s : ℕ) → s < 64 → order (ray_from files ranks s) ≡ true
ordered order files ranks same s low = at_square (λ a. order (ray_from files ranks a)) (λ a. true) same s low

up_table : bits_of UP ≡ ray_bits (pos 0) (pos 1)
unfolding squares ray_from
up_table = refl

up_order : all_in rises (pos 0) (pos 1) ≡ all_true
unfolding squares ray_from
up_order = refl

pub up_ray : (s : ℕ) → s < 64 → IsBitboard (get_or UP s 0) (contains (ray_from (pos 0) (pos 1) s))
up_ray s low = marked UP (pos 0) (pos 1) up_table s low

pub up_rises : (s : ℕ) → s < 64 → rises (ray_from (pos 0) (pos 1) s) ≡ true
up_rises s low = ordered rises (pos 0) (pos 1) up_order s low

right_table : bits_of RIGHT ≡ ray_bits (pos 1) (pos 0)
unfolding squares ray_from
right_table = refl

right_order : all_in rises (pos 1) (pos 0) ≡ all_true
unfolding squares ray_from
right_order = refl

pub right_ray : (s : ℕ) → s < 64 → IsBitboard (get_or RIGHT s 0) (contains (ray_from (pos 1) (pos 0) s))
right_ray s low = marked RIGHT (pos 1) (pos 0) right_table s low

pub right_rises : (s : ℕ) → s < 64 → rises (ray_from (pos 1) (pos 0) s) ≡ true
right_rises s low = ordered rises (pos 1) (pos 0) right_order s low

northeast_table : bits_of NORTHEAST ≡ ray_bits (pos 1) (pos 1)
unfolding squares ray_from
northeast_table = refl

northeast_order : all_in rises (pos 1) (pos 1) ≡ all_true
unfolding squares ray_from
northeast_order = refl

pub northeast_ray : (s : ℕ) → s < 64 → IsBitboard (get_or NORTHEAST s 0) (contains (ray_from (pos 1) (pos 1) s))
northeast_ray s low = marked NORTHEAST (pos 1) (pos 1) northeast_table s low

pub northeast_rises : (s : ℕ) → s < 64 → rises (ray_from (pos 1) (pos 1) s) ≡ true
northeast_rises s low = ordered rises (pos 1) (pos 1) northeast_order s low

northwest_table : bits_of NORTHWEST ≡ ray_bits (negsuc 0) (pos 1)
unfolding squares ray_from
northwest_table = refl

northwest_order : all_in rises (negsuc 0) (pos 1) ≡ all_true
unfolding squares ray_from
northwest_order = refl

pub northwest_ray : (s : ℕ) → s < 64 → IsBitboard (get_or NORTHWEST s 0) (contains (ray_from (negsuc 0) (pos 1) s))
northwest_ray s low = marked NORTHWEST (negsuc 0) (pos 1) northwest_table s low

pub northwest_rises : (s : ℕ) → s < 64 → rises (ray_from (negsuc 0) (pos 1) s) ≡ true
northwest_rises s low = ordered rises (negsuc 0) (pos 1) northwest_order s low

down_table : bits_of DOWN ≡ ray_bits (pos 0) (negsuc 0)
unfolding squares ray_from
down_table = refl

down_order : all_in falls (pos 0) (negsuc 0) ≡ all_true
unfolding squares ray_from
down_order = refl

pub down_ray : (s : ℕ) → s < 64 → IsBitboard (get_or DOWN s 0) (contains (ray_from (pos 0) (negsuc 0) s))
down_ray s low = marked DOWN (pos 0) (negsuc 0) down_table s low

pub down_falls : (s : ℕ) → s < 64 → falls (ray_from (pos 0) (negsuc 0) s) ≡ true
down_falls s low = ordered falls (pos 0) (negsuc 0) down_order s low

left_table : bits_of LEFT ≡ ray_bits (negsuc 0) (pos 0)
unfolding squares ray_from
left_table = refl

left_order : all_in falls (negsuc 0) (pos 0) ≡ all_true
unfolding squares ray_from
left_order = refl

pub left_ray : (s : ℕ) → s < 64 → IsBitboard (get_or LEFT s 0) (contains (ray_from (negsuc 0) (pos 0) s))
left_ray s low = marked LEFT (negsuc 0) (pos 0) left_table s low

pub left_falls : (s : ℕ) → s < 64 → falls (ray_from (negsuc 0) (pos 0) s) ≡ true
left_falls s low = ordered falls (negsuc 0) (pos 0) left_order s low

southeast_table : bits_of SOUTHEAST ≡ ray_bits (pos 1) (negsuc 0)
unfolding squares ray_from
southeast_table = refl

southeast_order : all_in falls (pos 1) (negsuc 0) ≡ all_true
unfolding squares ray_from
southeast_order = refl

pub southeast_ray : (s : ℕ) → s < 64 → IsBitboard (get_or SOUTHEAST s 0) (contains (ray_from (pos 1) (negsuc 0) s))
southeast_ray s low = marked SOUTHEAST (pos 1) (negsuc 0) southeast_table s low

pub southeast_falls : (s : ℕ) → s < 64 → falls (ray_from (pos 1) (negsuc 0) s) ≡ true
southeast_falls s low = ordered falls (pos 1) (negsuc 0) southeast_order s low

southwest_table : bits_of SOUTHWEST ≡ ray_bits (negsuc 0) (negsuc 0)
unfolding squares ray_from
southwest_table = refl

southwest_order : all_in falls (negsuc 0) (negsuc 0) ≡ all_true
unfolding squares ray_from
southwest_order = refl

pub southwest_ray : (s : ℕ) → s < 64 → IsBitboard (get_or SOUTHWEST s 0) (contains (ray_from (negsuc 0) (negsuc 0) s))
southwest_ray s low = marked SOUTHWEST (negsuc 0) (negsuc 0) southwest_table s low

pub southwest_falls : (s : ℕ) → s < 64 → falls (ray_from (negsuc 0) (negsuc 0) s) ≡ true
southwest_falls s low = ordered falls (negsuc 0) (negsuc 0) southwest_order s low
