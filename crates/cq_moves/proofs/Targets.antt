-- The sets of goals of men.
use Rattle.std.proofs.Common.{◌≡◌, ℕ, ◌<◌, Bool, true, false, not, ◌&&◌, ◌==◌, map, Option, Some, None, refl, inl, inr, sym, ap, ◌∙◌, pos, negsuc}
use Rattle.std.proofs.lemmas.Bool.{cases_eq, eq-eqb, ne_eqb, false_from_ne_true}
use Rattle.cq_geometry.specs.Squares.{squares}
use Rattle.cq_geometry.specs.Steps.{stepped}
use Rattle.cq_geometry.proofs.Tables.{at_squares}
use Rattle.cq_square_sets.specs.Bitboards.{IsBitboard, is_goal}
use Rattle.cq_square_sets.proofs.Marked.{marks_same, marks_none}
use Rattle.cq_position.specs.declared.men.Man.TheVariants.{Empty}
use Rattle.cq_position.specs.declared.men.Piece.TheVariants.{Pawn}
use Rattle.cq_position.specs.declared.men.Side.{Side}
use Rattle.cq_position.specs.declared.men.Side.TheVariants.{White, Black}
use Rattle.cq_position.specs.Men.{is_of_side, king_of, man_of, opponent}
use Rattle.cq_position.specs.Board.{Board, man_at, stands}
use Rattle.cq_position.specs.Attacks.{attacks_as, is_occupied, is_pawn_attack}
use Rattle.cq_position.specs.Legal.{goes_as, reaches, castles, castling_goal, is_single_step, is_double_step, middle}
use Rattle.cq_moves.specs.Candidates.{double_goal}
use Rattle.cq_moves.specs.Internal.Mover.{is_free}
use Rattle.cq_moves.proofs.Candidates.{castling_goes}

-- ---- castling
pub castled_marks : (p : Board) (from goal : ℕ) (kingside : Bool) (mask : ℕ) → castling_goal p.side kingside ≡ goal
    → castles p from goal kingside ≡ true
    → IsBitboard mask (is_goal (Some goal)) → IsBitboard mask (λ to. castles p from to kingside)
castled_marks p from goal kingside mask e does m = marks_same mask (is_goal (Some goal)) (λ to. castles p from to kingside) (λ k h. at k) m
  where
    at : (k : ℕ) → is_goal (Some goal) k ≡ castles p from k kingside
    at k = elim (cases_eq goal k) [
      | inl same ↦ eq-eqb goal k same ∙ sym does ∙ ap (λ to. castles p from to kingside) same
      | inr other ↦
          ne_eqb goal k other
          ∙ sym (false_from_ne_true (castles p from k kingside) (λ c. other (sym e ∙ castling_goes p from k kingside c)))
    ]

pub castled_nowhere : (p : Board) (from goal : ℕ) (kingside : Bool) → castling_goal p.side kingside ≡ goal
    → castles p from goal kingside ≡ false
    → IsBitboard 0 (λ to. castles p from to kingside)
castled_nowhere p from goal kingside e none = marks_same 0 (λ k. false) (λ to. castles p from to kingside) (λ k h. sym (at k)) marks_none
  where
    at : (k : ℕ) → castles p from k kingside ≡ false
    at k =
        false_from_ne_true (castles p from k kingside) (λ c.
        let bad : false ≡ true = sym none ∙ ap (λ to. castles p from to kingside) (sym e ∙ castling_goes p from k kingside c) ∙ c in cc)

-- ---- pawns
abbrev pub ahead_one : Side → ℕ → Option ℕ
ahead_one White a = stepped (pos 0) (pos 1) a
ahead_one Black a = stepped (pos 0) (negsuc 0) a

single_table : (side : Side)
    → map (λ a. map (is_single_step side a) squares) squares ≡ map (λ a. map (is_goal (ahead_one side a)) squares) squares
unfolding squares
single_table White = refl
single_table Black = refl

double_table : (side : Side)
    → map (λ a. map (is_double_step side a) squares) squares ≡ map (λ a. map (is_goal (double_goal side a)) squares) squares
unfolding squares
double_table White = refl
double_table Black = refl

pub single_marks : (side : Side) (from mask : ℕ) → from < 64 → IsBitboard mask (is_goal (ahead_one side from))
    → IsBitboard mask (is_single_step side from)
single_marks side from mask low m =
    marks_same mask (is_goal (ahead_one side from)) (is_single_step side from)
    (λ k h. sym (at_squares (is_single_step side) (λ a. is_goal (ahead_one side a)) (single_table side) from k low h)) m

abbrev steps_twice : Board → ℕ → ℕ → Bool
steps_twice p from to = is_double_step p.side from to && not (is_occupied p.men (middle from to)) && not (is_occupied p.men to)

abbrev are_free : Board → ℕ → ℕ → Bool
are_free p from to = not (is_occupied p.men (middle from to)) && not (is_occupied p.men to)

is_double : (p : Board) (from k : ℕ) (o : Option ℕ) → from < 64 → k < 64 → double_goal p.side from ≡ o
    → is_double_step p.side from k ≡ is_goal o k
is_double p from k o low h e =
    at_squares (is_double_step p.side) (λ a. is_goal (double_goal p.side a)) (double_table p.side) from k low h ∙ ap (λ x. is_goal x k) e

three : (a b c t : Bool) → a ≡ true → (b && c) ≡ t → (a && b && c) ≡ t
three true b c t h e = e
three false b c t h e = absurd (cc)

twice_at : (p : Board) (from goal k : ℕ) (t : Bool) → from < 64 → k < 64 → double_goal p.side from ≡ Some goal → are_free p from goal ≡ t
    → ((goal == k) && t) ≡ steps_twice p from k
twice_at p from goal k t low h e free =
    elim (cases_eq goal k) [
      | inl same ↦
          ap (λ x. x && t) (eq-eqb goal k same)
          ∙ sym (three (is_double_step p.side from k) (not (is_occupied p.men (middle from k))) (not (is_occupied p.men k)) t
          (is_double p from k (Some goal) low h e ∙ eq-eqb goal k same) (ap (are_free p from) (sym same) ∙ free))
      | inr other ↦
          ap (λ x. x && t) (ne_eqb goal k other)
          ∙ sym (ap (λ x. x && not (is_occupied p.men (middle from k)) && not (is_occupied p.men k))
          (is_double p from k (Some goal) low h e ∙ ne_eqb goal k other))
    ]

and_true : (a : Bool) → a ≡ (a && true)
and_true true = refl
and_true false = refl

and_false : (a : Bool) → false ≡ (a && false)
and_false true = refl
and_false false = refl

pub twice_marks : (p : Board) (from goal mask : ℕ) → from < 64 → double_goal p.side from ≡ Some goal → are_free p from goal ≡ true
    → IsBitboard mask (is_goal (Some goal)) → IsBitboard mask (steps_twice p from)
twice_marks p from goal mask low e free m =
    marks_same mask (is_goal (Some goal)) (steps_twice p from) (λ k h. and_true (goal == k) ∙ twice_at p from goal k true low h e free) m

pub twice_blocked : (p : Board) (from goal : ℕ) → from < 64 → double_goal p.side from ≡ Some goal → are_free p from goal ≡ false
    → IsBitboard 0 (steps_twice p from)
twice_blocked p from goal low e free =
    marks_same 0 (λ k. false) (steps_twice p from) (λ k h. and_false (goal == k) ∙ twice_at p from goal k false low h e free) marks_none

pub twice_nowhere : (p : Board) (from : ℕ) → from < 64 → double_goal p.side from ≡ None → IsBitboard 0 (steps_twice p from)
twice_nowhere p from low e =
    marks_same 0 (λ k. false) (steps_twice p from)
    (λ k h. sym (ap (λ x. x && not (is_occupied p.men (middle from k)) && not (is_occupied p.men k))
    (is_double p from k None low h e))) marks_none

pawn_attacks : (side : Side) (occupied : ℕ → Bool) (a b : ℕ) → attacks_as (man_of side Pawn) occupied a b ≡ is_pawn_attack side a b
pawn_attacks White occupied a b = refl
pawn_attacks Black occupied a b = refl

pub pawn_marks : (side : Side) (occupied : ℕ → Bool) (from mask : ℕ)
    → IsBitboard mask (attacks_as (man_of side Pawn) occupied from) → IsBitboard mask (is_pawn_attack side from)
pawn_marks side occupied from mask m =
    marks_same mask (attacks_as (man_of side Pawn) occupied from) (is_pawn_attack side from) (λ k h. pawn_attacks side occupied from k) m

-- a square is empty where no man stands
twice_not : (b : Bool) → b ≡ not (not b)
twice_not true = refl
twice_not false = refl

pub empty_marks : (p : Board) (mask : ℕ) → IsBitboard mask (λ k. stands p.men k Empty) → IsBitboard mask (λ k. not (is_occupied p.men k))
empty_marks p mask m =
    marks_same mask (λ k. stands p.men k Empty) (λ k. not (is_occupied p.men k)) (λ k h. twice_not (stands p.men k Empty)) m

-- ---- all men
turned : (x y z : Bool) → (x && (y && z)) ≡ (true && y && z && x)
turned true true z = by_last z
  where
    by_last : (z : Bool) → z ≡ (z && true)
    by_last true = refl
    by_last false = refl
turned true false z = refl
turned false true true = refl
turned false true false = refl
turned false false z = refl

pub own_reaches : (p : Board) (a b : ℕ) → is_of_side p.side (man_at p.men a) ≡ true
    → (goes_as (man_at p.men a) p a b && is_free p b) ≡ reaches p a b
unfolding reaches
own_reaches p a b own =
    turned (goes_as (man_at p.men a) p a b) (not (is_of_side p.side (man_at p.men b))) (not (stands p.men b (king_of (opponent p.side))))
    ∙ ap (λ t. t && not (is_of_side p.side (man_at p.men b)) && not (stands p.men b (king_of (opponent p.side)))
    && goes_as (man_at p.men a) p a b) (sym own)

pub other_reaches : (p : Board) (a b : ℕ) → is_of_side p.side (man_at p.men a) ≡ false → reaches p a b ≡ false
unfolding reaches
other_reaches p a b own =
    ap (λ t. t && not (is_of_side p.side (man_at p.men b)) && not (stands p.men b (king_of (opponent p.side)))
    && goes_as (man_at p.men a) p a b) own
