-- The goals of a man are among its candidates.
use Rattle.std.proofs.Common.{◌≡◌, ℕ, ◌<◌, Bool, true, false, not, ◌&&◌, ◌||◌, ◌==◌, map, refl, inl, inr, sym}
use Rattle.std.proofs.lemmas.Bool.{and_parts, or_cases, or_left, or_right, eqb-true}
use Rattle.cq_geometry.specs.Squares.{squares}
use Rattle.cq_geometry.proofs.Tables.{at_squares}
use Rattle.cq_position.specs.declared.men.Side.{Side}
use Rattle.cq_position.specs.declared.men.Side.TheVariants.{White, Black}
use Rattle.cq_position.specs.Men.{is_of_side, opponent}
use Rattle.cq_position.specs.Board.{Board, man_at, king_home}
use Rattle.cq_position.specs.Attacks.{is_occupied, is_pawn_attack, is_goal}
use Rattle.cq_position.specs.Legal.{castles, castling_goal, pawn_moves, is_single_step, is_double_step, middle}
use Rattle.cq_moves.specs.Candidates.{is_ahead}

abbrev steps : Side → ℕ → ℕ → Bool
steps side a b = not (is_single_step side a b || is_double_step side a b) || is_ahead side a b

abbrev always : ℕ → ℕ → Bool
always a b = true

steps_table : (side : Side) → map (λ a. map (steps side a) squares) squares ≡ map (λ a. map (always a) squares) squares
unfolding squares
steps_table White = refl
steps_table Black = refl

implied : (s t : Bool) → (not s || t) ≡ true → s ≡ true → t ≡ true
implied true t h e = h
implied false t h e = absurd (cc)

steps_ahead : (side : Side) (a b : ℕ) → a < 64 → b < 64 → (is_single_step side a b || is_double_step side a b) ≡ true → is_ahead side a b ≡ true
steps_ahead side a b h k e =
    implied (is_single_step side a b || is_double_step side a b) (is_ahead side a b) (at_squares (steps side) always (steps_table side) a b h k) e

pub first_of : (x y : Bool) → (x && y) ≡ true → x ≡ true
first_of true y h = refl
first_of false y h = h

-- a pawn steps ahead, or captures what it attacks
pub pawn_goes : (p : Board) (a b : ℕ) → a < 64 → b < 64 → pawn_moves p a b ≡ true → (is_pawn_attack p.side a b || is_ahead p.side a b) ≡ true
pawn_goes p a b h k e =
    let single = is_single_step p.side a b in
    let double = is_double_step p.side a b in
    let attack = is_pawn_attack p.side a b in
    let goal = λ (t : (single || double) ≡ true). or_right attack (is_ahead p.side a b) (steps_ahead p.side a b h k t) in
    elim (or_cases (single && not (is_occupied p.men b) || double && not (is_occupied p.men (middle a b)) && not (is_occupied p.men b))
    (attack && (is_of_side (opponent p.side) (man_at p.men b) || is_goal p.passant b)) e) [
      | inl step ↦ elim (or_cases (single && not (is_occupied p.men b)) (double && not (is_occupied p.men (middle a b)) && not (is_occupied p.men b)) step) [
        | inl one ↦ goal (or_left single double (first_of single (not (is_occupied p.men b)) one))
        | inr two ↦
            goal (or_right single double (first_of double (not (is_occupied p.men (middle a b)))
            (first_of (double && not (is_occupied p.men (middle a b))) (not (is_occupied p.men b)) two)))
      ]
      | inr takes ↦ or_left attack (is_ahead p.side a b) (first_of attack (is_of_side (opponent p.side) (man_at p.men b) || is_goal p.passant b) takes)
    ]

pub castling_goes : (p : Board) (a b : ℕ) (kingside : Bool) → castles p a b kingside ≡ true → castling_goal p.side kingside ≡ b
castling_goes p a b kingside h =
    let four = first_of _ _ h in
    let three = first_of _ _ four in
    let two = first_of ((a == king_home p.side) && (b == castling_goal p.side kingside)) _ three in
    sym (eqb-true b (castling_goal p.side kingside) (and_parts (a == king_home p.side) (b == castling_goal p.side kingside) two).1)

pub four_parts : (a b c d : Bool) → (a && b && c && d) ≡ true → (a ≡ true) × (d ≡ true)
four_parts a b c d h =
    let last = and_parts (a && b && c) d h in
    (first_of a b (first_of (a && b) c last.0), last.1)
