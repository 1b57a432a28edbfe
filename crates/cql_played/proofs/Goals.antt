-- The goals of castling and of a pawn that captures in passing are empty.
use Rattle.std.proofs.Common.{◌≡◌, ◌≢◌, ℕ, ◌+◌, ◌-◌, Bool, true, false, not, ◌&&◌, ◌||◌, Option, Some, None, List, [], ◌∷◌, refl, sym, ap, ◌∙◌, subst, inl, inr, arith}
use Rattle.std.specs.Prelude.{◌==◌}
use Rattle.std.specs.List.{list_all}
use Rattle.std.proofs.lemmas.Bool.{eqb-true, and_parts, or_cases, not-true, not-false}
use Rattle.cq_geometry.specs.Squares.{file_of, rank_of, squares}
use Rattle.cq_geometry.specs.Steps.{files_apart, distance, is_king_step}
use Rattle.cq_geometry.specs.Lines.{is_open, between_squares}
use Rattle.cq_position.specs.declared.men.Man.{Man}
use Rattle.cq_position.specs.declared.men.Man.TheVariants.{P, BlackP, Empty}
use Rattle.cq_position.specs.declared.men.Side.{Side}
use Rattle.cq_position.specs.declared.men.Side.TheVariants.{White, Black}
use Rattle.cq_position.specs.declared.moves.Move.{Move}
use Rattle.cq_position.specs.Men.{is_of_side, opponent, king_of, pawn_of}
use Rattle.cq_position.specs.Board.{Board, man_at, stands, is_pawn, castling_right, king_home, rook_home, was_passed, passant_stands}
use Rattle.cq_position.specs.Attacks.{attacks, attacks_as, is_goal, is_occupied, is_attacked, is_pawn_attack}
use Rattle.cq_position.specs.Legal.{goes_as, castles, castling_goal, castling_crossed, is_castling, is_en_passant_capture, pawn_moves, is_single_step, is_double_step, middle}
use Rattle.cq_moves.proofs.Boards.{stands-is}
use Rattle.cq_moves.proofs.Steps.{Goes, own_pawn}

-- the king's goal lies between king and rook
second_open : (a b c : Bool) → (not a && (not b && c)) ≡ true → b ≡ false
second_open a b c e = not-true b (and_parts (not b) c (and_parts (not a) (not b && c) e).1).0

goal_open : (side : Side) (kingside : Bool) (occupied : ℕ → Bool) → is_open occupied (king_home side) (rook_home side kingside) ≡ true
    → occupied (castling_goal side kingside) ≡ false
unfolding between_squares squares
goal_open White true occupied e = second_open (occupied 5) (occupied 6) (list_all (λ s. not (occupied s)) []) e
goal_open White false occupied e = second_open (occupied 3) (occupied 2) (list_all (λ s. not (occupied s)) (1 ∷ [])) e
goal_open Black true occupied e = second_open (occupied 61) (occupied 62) (list_all (λ s. not (occupied s)) []) e
goal_open Black false occupied e = second_open (occupied 59) (occupied 58) (list_all (λ s. not (occupied s)) (57 ∷ [])) e

castles_to_empty : (p : Board) (a b : ℕ) (kingside : Bool) → castles p a b kingside ≡ true → man_at p.men b ≡ Empty
castles_to_empty p a b kingside e =
    let goal = castling_goal p.side kingside in
    let home = is_open (is_occupied p.men) (king_home p.side) (rook_home p.side kingside) in
    let right = castling_right p.rights p.side kingside in
    let safe = list_all (λ square. not (is_attacked p.men (opponent p.side) square)) (a ∷ castling_crossed p.side kingside ∷ b ∷ []) in
    let front = (and_parts ((a == king_home p.side) && (b == goal) && right && home) safe e).0 in
    let open_ = and_parts ((a == king_home p.side) && (b == goal) && right) home front in
    let there = (and_parts (a == king_home p.side) (b == goal) (and_parts ((a == king_home p.side) && (b == goal)) right open_.0).0).1 in
    ap (man_at p.men) (eqb-true b goal there)
    ∙ stands-is p.men goal Empty (not-false (stands p.men goal Empty) (goal_open p.side kingside (is_occupied p.men) open_.1))

king_step : (side : Side) (occupied : ℕ → Bool) (a b : ℕ) → attacks_as (king_of side) occupied a b ≡ true → is_king_step a b ≡ true
king_step White occupied a b e = e
king_step Black occupied a b e = e

king_attacks : (side : Side) (men : List Man) (a b : ℕ) → man_at men a ≡ king_of side → attacks men a b ≡ true → is_king_step a b ≡ true
unfolding attacks
king_attacks side men a b is e = king_step side (is_occupied men) a b (subst (λ (man : Man). attacks_as man (is_occupied men) a b ≡ true) is e)

king_moves : (side : Side) (p : Board) (a b : ℕ) → goes_as (king_of side) p a b ≡ true → (attacks p.men a b || castles p a b true || castles p a b false) ≡ true
king_moves White p a b e = e
king_moves Black p a b e = e

no_step : (a b : ℕ) → is_king_step a b ≡ true → files_apart a b ≡ 2 → ⊥
no_step a b step two = let one : distance a b ≡ 1 = eqb-true (distance a b) 1 step in omega (arith, one, two)

pub castling_goal_empty : (p : Board) (m : Move) → Goes p m → is_castling p m ≡ true → man_at p.men m.to ≡ Empty
castling_goal_empty p m g castling =
    let t = and_parts (stands p.men m.from (king_of p.side)) (files_apart m.from m.to == 2) castling in
    let king = stands-is p.men m.from (king_of p.side) t.0 in
    let two = eqb-true (files_apart m.from m.to) 2 t.1 in
    let ways = king_moves p.side p m.from m.to (subst (λ (man : Man). goes_as man p m.from m.to ≡ true) king g.goes) in
    elim (or_cases (attacks p.men m.from m.to || castles p m.from m.to true) (castles p m.from m.to false) ways) [
      | inl rest ↦ elim (or_cases (attacks p.men m.from m.to) (castles p m.from m.to true) rest) [
        | inl step ↦ absurd (no_step m.from m.to (king_attacks p.side p.men m.from m.to king step) two)
        | inr kingside ↦ castles_to_empty p m.from m.to true kingside
      ]
      | inr queenside ↦ castles_to_empty p m.from m.to false queenside
    ]

-- the en passant square is empty
passed_empty : (men : List Man) (side : Side) (square : ℕ) → was_passed men side square ≡ true → man_at men square ≡ Empty
passed_empty men White square e =
    let rest = (and_parts ((rank_of square == 5) && stands men square Empty && stands men (square - 8) BlackP) (stands men (square + 8) Empty) e).0 in
    let front = (and_parts ((rank_of square == 5) && stands men square Empty) (stands men (square - 8) BlackP) rest).0 in
    stands-is men square Empty (and_parts (rank_of square == 5) (stands men square Empty) front).1
passed_empty men Black square e =
    let rest = (and_parts ((rank_of square == 2) && stands men square Empty && stands men (square + 8) P) (stands men (square - 8) Empty) e).0 in
    let front = (and_parts ((rank_of square == 2) && stands men square Empty) (stands men (square + 8) P) rest).0 in
    stands-is men square Empty (and_parts (rank_of square == 2) (stands men square Empty) front).1

goal_empty : (men : List Man) (side : Side) (passant : Option ℕ) (square : ℕ) → is_goal passant square ≡ true → passant_stands men side passant ≡ true → man_at men square ≡ Empty
goal_empty men side None square e stood = absurd (cc)
goal_empty men side (Some goal) square e stood = passed_empty men side square (ap (was_passed men side) (sym (eqb-true goal square e)) ∙ stood)

pub passing_goal_empty : (p : Board) (m : Move) → passant_stands p.men p.side p.passant ≡ true → is_en_passant_capture p m ≡ true → man_at p.men m.to ≡ Empty
passing_goal_empty p m stood e =
    goal_empty p.men p.side p.passant m.to (and_parts (is_pawn (man_at p.men m.from) && (files_apart m.from m.to == 1)) (is_goal p.passant m.to) e).1 stood

-- a pawn that goes to another file, to a square without a man of the other side, captures on the en passant square
one_file_ahead : (side : Side) (a b : ℕ) → is_single_step side a b ≡ true → file_of a ≡ file_of b
one_file_ahead White a b e = let is = eqb-true b (a + 8) e in omega arith
one_file_ahead Black a b e = let is = eqb-true a (b + 8) e in omega arith

two_on_one_file : (side : Side) (a b : ℕ) → is_double_step side a b ≡ true → file_of a ≡ file_of b
two_on_one_file White a b e = let is = eqb-true b (a + 16) (and_parts (rank_of a == 1) (b == a + 16) e).1 in omega arith
two_on_one_file Black a b e = let is = eqb-true a (b + 16) (and_parts (rank_of a == 6) (a == b + 16) e).1 in omega arith

next_file : (side : Side) (a b : ℕ) → is_pawn_attack side a b ≡ true → (files_apart a b == 1) ≡ true
next_file White a b e = (and_parts (rank_of b == rank_of a + 1) (files_apart a b == 1) e).1
next_file Black a b e = (and_parts (rank_of a == rank_of b + 1) (files_apart a b == 1) e).1

takes_in_passing : (p : Board) (a b : ℕ) → pawn_moves p a b ≡ true → is_of_side (opponent p.side) (man_at p.men b) ≡ false → file_of a ≢ file_of b
    → ((files_apart a b == 1) ≡ true) × (is_goal p.passant b ≡ true)
takes_in_passing p a b e none files =
    let step = is_single_step p.side a b && not (is_occupied p.men b) in
    let two = is_double_step p.side a b && not (is_occupied p.men (middle a b)) && not (is_occupied p.men b) in
    let takes = is_of_side (opponent p.side) (man_at p.men b) || is_goal p.passant b in
    elim (or_cases (step || two) (is_pawn_attack p.side a b && takes) e) [
      | inl rest ↦ elim (or_cases step two rest) [
        | inl h ↦ absurd (files (one_file_ahead p.side a b (and_parts (is_single_step p.side a b) (not (is_occupied p.men b)) h).0))
        | inr h ↦
            let first = and_parts (is_double_step p.side a b && not (is_occupied p.men (middle a b))) (not (is_occupied p.men b)) h in
            absurd (files (two_on_one_file p.side a b (and_parts (is_double_step p.side a b) (not (is_occupied p.men (middle a b))) first.0).0))
      ]
      | inr h ↦
          let t = and_parts (is_pawn_attack p.side a b) takes h in
          (next_file p.side a b t.0, ap (λ x. x || is_goal p.passant b) (sym none) ∙ t.1)
    ]

as_pawn : (side : Side) (p : Board) (a b : ℕ) → goes_as (pawn_of side) p a b ≡ true → pawn_moves p a b ≡ true
as_pawn White p a b e = e
as_pawn Black p a b e = e

pub nobody : (side : Side) → is_of_side side Empty ≡ false
nobody White = refl
nobody Black = refl

pub changes_file : (p : Board) (m : Move) → Goes p m → is_pawn (man_at p.men m.from) ≡ true → man_at p.men m.to ≡ Empty → file_of m.from ≢ file_of m.to
    → is_en_passant_capture p m ≡ true
changes_file p m g pawn empty files =
    let own = own_pawn p.side (man_at p.men m.from) g.own pawn in
    let steps = as_pawn p.side p m.from m.to (subst (λ (man : Man). goes_as man p m.from m.to ≡ true) own g.goes) in
    let t = takes_in_passing p m.from m.to steps (ap (is_of_side (opponent p.side)) empty ∙ nobody (opponent p.side)) files in
    rw (pawn, t.0, t.1) refl
