-- The squares to which a king and a knight step.
use Rattle.std.proofs.Common.{◌≡◌, ℕ, ◌<◌, ◌&&◌, ◌||◌, ◌==◌, max, map, refl, ap₂, arith}
use Rattle.std.specs.List.{All}
use Rattle.cq_geometry.specs.Squares.{file_of, rank_of, squares}
use Rattle.cq_geometry.specs.Steps.{king_squares, knight_squares, is_king_step, is_knight_step, apart}
use Rattle.cq_geometry.specs.Internal.Expansions.{king_goals, knight_goals, kept_goals}
use Rattle.cq_geometry.proofs.Board.{kept_squares_board}
use Rattle.cq_geometry.proofs.Tables.{at_square}

king_table : map (λ s. kept_goals (king_goals s)) squares ≡ map king_squares squares
unfolding squares king_squares
king_table = refl

pub king_goals_kept : (s : ℕ) → s < 64 → kept_goals (king_goals s) ≡ king_squares s
king_goals_kept s h = at_square (λ q. kept_goals (king_goals q)) king_squares king_table s h

knight_table : map (λ s. kept_goals (knight_goals s)) squares ≡ map knight_squares squares
unfolding squares knight_squares
knight_table = refl

pub knight_goals_kept : (s : ℕ) → s < 64 → kept_goals (knight_goals s) ≡ knight_squares s
knight_goals_kept s h = at_square (λ q. kept_goals (knight_goals q)) knight_squares knight_table s h

pub king_board : (s : ℕ) → All (λ q. q < 64) (king_squares s)
unfolding king_squares
king_board s = kept_squares_board (is_king_step s)

pub knight_board : (s : ℕ) → All (λ q. q < 64) (knight_squares s)
unfolding knight_squares
knight_board s = kept_squares_board (is_knight_step s)

apart_both_ways : (m n : ℕ) → apart m n ≡ apart n m
apart_both_ways m n = omega arith

pub king_steps_back : (a b : ℕ) → is_king_step a b ≡ is_king_step b a
king_steps_back a b =
    ap₂ (λ m n. max m n == 1) (apart_both_ways (file_of a) (file_of b)) (apart_both_ways (rank_of a) (rank_of b))

pub knight_steps_back : (a b : ℕ) → is_knight_step a b ≡ is_knight_step b a
knight_steps_back a b =
    ap₂ (λ m n. m == 1 && n == 2 || m == 2 && n == 1) (apart_both_ways (file_of a) (file_of b))
    (apart_both_ways (rank_of a) (rank_of b))
