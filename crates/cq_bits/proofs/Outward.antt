-- A man attacks a square exactly if the square sees it as it sees the square.
use Rattle.std.proofs.Common.{◌≡◌, ℕ, ◌+◌, ◌-◌, ◌<◌, Bool, true, false, ◌&&◌, ◌||◌, ◌==◌, List, refl, sym, ap, ap₂, ◌∙◌, arith}
use Rattle.std.proofs.Math.Bool.{or-false}
use Rattle.cq_geometry.specs.Squares.{rank_of, file_of}
use Rattle.cq_geometry.specs.Steps.{apart, files_apart, is_king_step, is_knight_step}
use Rattle.cq_geometry.specs.Lines.{is_orthogonal, is_diagonal, is_open}
use Rattle.cq_geometry.proofs.Neighbors.{king_steps_back, knight_steps_back}
use Rattle.cq_position.specs.Attacks.{attacks, attacks_as, is_occupied}
use Rattle.cq_position.specs.Board.{man_at}
use Rattle.cq_position.specs.declared.men.Man.{Man}
use Rattle.cq_position.specs.declared.men.Man.TheVariants.{K, Q, R, B, N, P, BlackK, BlackQ, BlackR, BlackB, BlackN, BlackP, Empty}
use Rattle.cq_position.proofs.Attackers.{open_both_ways, orthogonal_both_ways, diagonal_both_ways}
use Rattle.cq_bits.specs.Sets.{goes_straight, goes_diagonally, leaps_to}

-- a man stands there that goes so, and is seen so
abbrev pub is_seen : (ℕ → Bool) → Man → ℕ → ℕ → Bool
is_seen occupied man to from =
    (goes_straight man && (is_orthogonal to from && is_open occupied to from) || goes_diagonally man && (is_diagonal to from && is_open occupied to from))
    || leaps_to man to from

apart_back : (m n : ℕ) → apart m n ≡ apart n m
apart_back m n = omega arith

two_lines : (s t u : Bool) → ((s && u) || (t && u)) ≡ ((s || t) && u)
two_lines true true true = refl
two_lines true true false = refl
two_lines true false true = refl
two_lines true false false = refl
two_lines false t u = refl

module _ (occupied : ℕ → Bool) (to from : ℕ) (open_ : is_open occupied to from ≡ is_open occupied from to) where
  straight : (is_orthogonal to from && is_open occupied to from) ≡ (is_orthogonal from to && is_open occupied from to)
  straight = ap₂ (λ x y. x && y) (orthogonal_both_ways to from) open_

  slanted : (is_diagonal to from && is_open occupied to from) ≡ (is_diagonal from to && is_open occupied from to)
  slanted = ap₂ (λ x y. x && y) (diagonal_both_ways to from) open_

  queen : ((is_orthogonal to from && is_open occupied to from) || (is_diagonal to from && is_open occupied to from))
      ≡ ((is_orthogonal from to || is_diagonal from to) && is_open occupied from to)
  queen = two_lines (is_orthogonal to from) (is_diagonal to from) (is_open occupied to from)
      ∙ ap₂ (λ x y. x && y) (ap₂ (λ x y. x || y) (orthogonal_both_ways to from) (diagonal_both_ways to from)) open_

  beside : (b : Bool) → (b && (files_apart to from == 1)) ≡ (b && (files_apart from to == 1))
  beside b = ap (λ n. b && (n == 1)) (apart_back (file_of to) (file_of from))

  by_man : (man : Man) → is_seen occupied man to from ≡ attacks_as man occupied from to
  by_man K = or-false _ ∙ or-false _ ∙ king_steps_back to from
  by_man Q = or-false _ ∙ queen
  by_man R = or-false _ ∙ or-false _ ∙ straight
  by_man B = or-false _ ∙ slanted
  by_man N = or-false _ ∙ or-false _ ∙ or-false _ ∙ knight_steps_back to from
  by_man P = or-false _ ∙ beside (rank_of to == rank_of from + 1)
  by_man BlackK = or-false _ ∙ or-false _ ∙ king_steps_back to from
  by_man BlackQ = or-false _ ∙ queen
  by_man BlackR = or-false _ ∙ or-false _ ∙ straight
  by_man BlackB = or-false _ ∙ slanted
  by_man BlackN = or-false _ ∙ or-false _ ∙ or-false _ ∙ knight_steps_back to from
  by_man BlackP = beside (rank_of from == rank_of to + 1)
  by_man Empty = refl

pub seen_attacks : (men : List Man) (to from : ℕ) → from < 64 → is_seen (is_occupied men) (man_at men from) to from ≡ attacks men from to
unfolding attacks
seen_attacks men to from low = by_man (is_occupied men) to from (open_both_ways (is_occupied men) to from low) (man_at men from)
