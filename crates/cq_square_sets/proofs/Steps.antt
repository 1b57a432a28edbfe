-- The steps of kings and knights, and the lines of rooks and bishops, by looking at all squares.
use Rattle.std.proofs.Common.{◌≡◌, ℕ, Bool, ◌&&◌, ◌==◌, ◌+◌, ◌*◌, ◌/◌, ◌%◌, ◌^◌, ◌<◌, get_or, map, refl}
use Rattle.std.specs.Prelude.{bit_and, bit_or}
use Rattle.std.specs.Int.{bit_at}
use Rattle.cq_geometry.specs.Squares.{squares, rank_of}
use Rattle.cq_geometry.specs.Steps.{files_apart, is_king_step, is_knight_step}
use Rattle.cq_geometry.specs.Lines.{is_orthogonal, is_diagonal}
use Rattle.cq_geometry.proofs.Tables.{at_squares}
use Rattle.cq_square_sets.specs.Bitboards.{IsBitboard, bit_of}
use Rattle.cq_square_sets.specs.declared.leaps.TheConstants.{KING_ATTACKS, KNIGHT_ATTACKS}
use Rattle.cq_square_sets.specs.declared.lines.TheConstants.{ROOK_LINES, BISHOP_LINES}

knights_table : map (λ a. map (λ k. bit_at (get_or KNIGHT_ATTACKS a 0) k) squares) squares ≡ map (λ a. map (λ k. bit_of (is_knight_step a k)) squares) squares
unfolding squares
knights_table = refl

pub knights_marked : (s : ℕ) → s < 64 → IsBitboard (get_or KNIGHT_ATTACKS s 0) (is_knight_step s)
knights_marked s low = record { bit = λ k h. at_squares (λ a k. bit_at (get_or KNIGHT_ATTACKS a 0) k) (λ a k. bit_of (is_knight_step a k)) knights_table s k low h }

kings_table : map (λ a. map (λ k. bit_at (get_or KING_ATTACKS a 0) k) squares) squares ≡ map (λ a. map (λ k. bit_of (is_king_step a k)) squares) squares
unfolding squares
kings_table = refl

pub kings_marked : (s : ℕ) → s < 64 → IsBitboard (get_or KING_ATTACKS s 0) (is_king_step s)
kings_marked s low = record { bit = λ k h. at_squares (λ a k. bit_at (get_or KING_ATTACKS a 0) k) (λ a k. bit_of (is_king_step a k)) kings_table s k low h }

straight_table : map (λ a. map (λ k. bit_at (get_or ROOK_LINES a 0) k) squares) squares ≡ map (λ a. map (λ k. bit_of (is_orthogonal a k)) squares) squares
unfolding squares
straight_table = refl

pub straight_marked : (s : ℕ) → s < 64 → IsBitboard (get_or ROOK_LINES s 0) (is_orthogonal s)
straight_marked s low = record { bit = λ k h. at_squares (λ a k. bit_at (get_or ROOK_LINES a 0) k) (λ a k. bit_of (is_orthogonal a k)) straight_table s k low h }

slanted_table : map (λ a. map (λ k. bit_at (get_or BISHOP_LINES a 0) k) squares) squares ≡ map (λ a. map (λ k. bit_of (is_diagonal a k)) squares) squares
unfolding squares
slanted_table = refl

pub slanted_marked : (s : ℕ) → s < 64 → IsBitboard (get_or BISHOP_LINES s 0) (is_diagonal s)
slanted_marked s low = record { bit = λ k h. at_squares (λ a k. bit_at (get_or BISHOP_LINES a 0) k) (λ a k. bit_of (is_diagonal a k)) slanted_table s k low h }

-- one rank up, or one rank down, on the files beside
abbrev pub is_up : ℕ → ℕ → Bool
is_up a b = (rank_of b == rank_of a + 1) && (files_apart a b == 1)

abbrev pub is_down : ℕ → ℕ → Bool
is_down a b = (rank_of a == rank_of b + 1) && (files_apart a b == 1)

abbrev pub up_of : ℕ → ℕ
up_of b = bit_or (bit_and b 9187201950435737471 * 512 % 18446744073709551616) (bit_and b 18374403900871474942 * 128 % 18446744073709551616)

abbrev pub down_of : ℕ → ℕ
down_of b = bit_or (bit_and b 9187201950435737471 / 128) (bit_and b 18374403900871474942 / 512)

up_table : map (λ a. map (λ k. bit_at (up_of (1 * 2 ^ a % 18446744073709551616)) k) squares) squares ≡ map (λ a. map (λ k. bit_of (is_up a k)) squares) squares
unfolding squares
up_table = refl

pub up_marked : (s : ℕ) → s < 64 → IsBitboard (up_of (1 * 2 ^ s % 18446744073709551616)) (is_up s)
up_marked s low = record { bit = λ k h. at_squares (λ a k. bit_at (up_of (1 * 2 ^ a % 18446744073709551616)) k) (λ a k. bit_of (is_up a k)) up_table s k low h }

down_table : map (λ a. map (λ k. bit_at (down_of (1 * 2 ^ a % 18446744073709551616)) k) squares) squares ≡ map (λ a. map (λ k. bit_of (is_down a k)) squares) squares
unfolding squares
down_table = refl

pub down_marked : (s : ℕ) → s < 64 → IsBitboard (down_of (1 * 2 ^ s % 18446744073709551616)) (is_down s)
down_marked s low = record { bit = λ k h. at_squares (λ a k. bit_at (down_of (1 * 2 ^ a % 18446744073709551616)) k) (λ a k. bit_of (is_down a k)) down_table s k low h }
