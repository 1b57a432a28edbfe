-- A pawn's goal, and its file if it captures, determine its origin.
use Rattle.std.proofs.Common.{◌≡◌, ℕ, ◌+◌, ◌-◌, Bool, true, false, not, ◌&&◌, ◌||◌, Option, Some, None, List, refl, sym, ap, ◌∙◌, subst, inl, inr, arith, eqb-true}
use Rattle.std.specs.Prelude.{◌==◌}
use Rattle.std.proofs.lemmas.Bool.{and_parts, and_from, or_cases, or_left, or_right, not-true, not-false, not_from_false, false_from_ne_true, false≢true}
use Rattle.cq_geometry.specs.Squares.{file_of, rank_of}
use Rattle.cq_geometry.specs.Steps.{files_apart}
use Rattle.cq_position.specs.declared.men.Man.{Man}
use Rattle.cq_position.specs.declared.men.Man.TheVariants.{P, BlackP, Empty}
use Rattle.cq_position.specs.declared.men.Side.{Side}
use Rattle.cq_position.specs.declared.men.Side.TheVariants.{White, Black}
use Rattle.cq_position.specs.declared.moves.Move.{Move}
use Rattle.cq_position.specs.Men.{same_man, is_of_side, opponent, pawn_of}
use Rattle.cq_position.specs.Board.{Board, man_at, stands, is_pawn, was_passed, passant_stands}
use Rattle.cq_position.specs.Attacks.{is_goal, is_occupied, is_pawn_attack}
use Rattle.cq_position.specs.Legal.{goes_as, pawn_moves, is_single_step, is_double_step, middle, is_en_passant_capture}
use Rattle.cq_moves.proofs.Boards.{stands-is}
use Rattle.cq_moves.proofs.Steps.{own_pawn}
use Rattle.cq_san.specs.Writing.{is_capture}

-- the ways of a pawn, with what stands on its goal
data Way (p : Board) (a b : ℕ) : Type 0 where
  ahead : is_single_step p.side a b ≡ true → man_at p.men b ≡ Empty → Way p a b
  double : is_double_step p.side a b ≡ true → man_at p.men (middle a b) ≡ Empty → man_at p.men b ≡ Empty → Way p a b
  capture : is_pawn_attack p.side a b ≡ true → (is_of_side (opponent p.side) (man_at p.men b) || is_goal p.passant b) ≡ true → Way p a b

empty_square : (men : List Man) (square : ℕ) → not (is_occupied men square) ≡ true → man_at men square ≡ Empty
empty_square men square e = stands-is men square Empty (not-false (stands men square Empty) (not-true (is_occupied men square) e))

way_of : (p : Board) (a b : ℕ) → pawn_moves p a b ≡ true → Way p a b
way_of p a b e =
    let step = is_single_step p.side a b && not (is_occupied p.men b) in
    let two = is_double_step p.side a b && not (is_occupied p.men (middle a b)) && not (is_occupied p.men b) in
    let takes_ = is_of_side (opponent p.side) (man_at p.men b) || is_goal p.passant b in
    elim (or_cases (step || two) (is_pawn_attack p.side a b && takes_) e) [
      | inl rest ↦ elim (or_cases step two rest) [
        | inl h ↦ let t = and_parts (is_single_step p.side a b) (not (is_occupied p.men b)) h in ahead t.0 (empty_square p.men b t.1)
        | inr h ↦
            let last = and_parts (is_double_step p.side a b && not (is_occupied p.men (middle a b))) (not (is_occupied p.men b)) h in
            let first = and_parts (is_double_step p.side a b) (not (is_occupied p.men (middle a b))) last.0 in
            double first.0 (empty_square p.men (middle a b) first.1) (empty_square p.men b last.1)
      ]
      | inr h ↦ let t = and_parts (is_pawn_attack p.side a b) takes_ h in capture t.0 t.1
    ]

-- steps to one goal, by coordinates
two_singles : (side : Side) (a c b : ℕ) → is_single_step side a b ≡ true → is_single_step side c b ≡ true → c ≡ a
two_singles White a c b e f = let x = eqb-true b (a + 8) e in let y = eqb-true b (c + 8) f in omega arith
two_singles Black a c b e f = let x = eqb-true a (b + 8) e in let y = eqb-true c (b + 8) f in omega arith

two_doubles : (side : Side) (a c b : ℕ) → is_double_step side a b ≡ true → is_double_step side c b ≡ true → c ≡ a
two_doubles White a c b e f = let x = eqb-true b (a + 16) (and_parts (rank_of a == 1) (b == a + 16) e).1 in let y = eqb-true b (c + 16) (and_parts (rank_of c == 1) (b == c + 16) f).1 in omega arith
two_doubles Black a c b e f = let x = eqb-true a (b + 16) (and_parts (rank_of a == 6) (a == b + 16) e).1 in let y = eqb-true c (b + 16) (and_parts (rank_of c == 6) (c == b + 16) f).1 in omega arith

-- the single step begins where the double step passes
single_passed : (side : Side) (a c b : ℕ) → is_single_step side a b ≡ true → is_double_step side c b ≡ true → middle c b ≡ a
single_passed White a c b e f = let x = eqb-true b (a + 8) e in let y = eqb-true b (c + 16) (and_parts (rank_of c == 1) (b == c + 16) f).1 in omega arith
single_passed Black a c b e f = let x = eqb-true a (b + 8) e in let y = eqb-true c (b + 16) (and_parts (rank_of c == 6) (c == b + 16) f).1 in omega arith

two_captures : (side : Side) (a c b : ℕ) → is_pawn_attack side a b ≡ true → is_pawn_attack side c b ≡ true → file_of c ≡ file_of a → c ≡ a
two_captures White a c b e f same = let x = eqb-true (rank_of b) (rank_of a + 1) (and_parts (rank_of b == rank_of a + 1) (files_apart a b == 1) e).0 in
    let y = eqb-true (rank_of b) (rank_of c + 1) (and_parts (rank_of b == rank_of c + 1) (files_apart c b == 1) f).0 in omega arith
two_captures Black a c b e f same = let x = eqb-true (rank_of a) (rank_of b + 1) (and_parts (rank_of a == rank_of b + 1) (files_apart a b == 1) e).0 in
    let y = eqb-true (rank_of c) (rank_of b + 1) (and_parts (rank_of c == rank_of b + 1) (files_apart c b == 1) f).0 in omega arith

capture_apart : (side : Side) (a b : ℕ) → is_pawn_attack side a b ≡ true → (files_apart a b == 1) ≡ true
capture_apart White a b e = (and_parts (rank_of b == rank_of a + 1) (files_apart a b == 1) e).1
capture_apart Black a b e = (and_parts (rank_of a == rank_of b + 1) (files_apart a b == 1) e).1

single_file : (side : Side) (a b : ℕ) → is_single_step side a b ≡ true → file_of a ≡ file_of b
single_file White a b e = let x = eqb-true b (a + 8) e in omega arith
single_file Black a b e = let x = eqb-true a (b + 8) e in omega arith

double_file : (side : Side) (a b : ℕ) → is_double_step side a b ≡ true → file_of a ≡ file_of b
double_file White a b e = let x = eqb-true b (a + 16) (and_parts (rank_of a == 1) (b == a + 16) e).1 in omega arith
double_file Black a b e = let x = eqb-true a (b + 16) (and_parts (rank_of a == 6) (a == b + 16) e).1 in omega arith

-- no capture comes from the file of its goal
no_capture : (side : Side) (a c b : ℕ) → is_pawn_attack side a b ≡ true → file_of c ≡ file_of b → file_of c ≡ file_of a → ⊥
no_capture side a c b e own same = let x = eqb-true (files_apart a b) 1 (capture_apart side a b e) in omega arith

-- an en passant square is not reached by a step: before it stands the other side's pawn
four_parts : (a b c d : Bool) → (a && b && c && d) ≡ true → (a ≡ true) × (c ≡ true)
four_parts a b c d t = let l = and_parts (a && b && c) d t in let k = and_parts (a && b) c l.0 in ((and_parts a b k.0).0, k.1)

not_stepped : (side : Side) (men : List Man) (a b : ℕ) → was_passed men side b ≡ true → is_single_step side a b ≡ true → man_at men a ≡ pawn_of side → ⊥
not_stepped White men a b w e is =
    let x = eqb-true b (a + 8) e in
    let t = four_parts (rank_of b == 5) (stands men b Empty) (stands men (b - 8) BlackP) (stands men (b + 8) Empty) w in
    let back : b - 8 ≡ a = omega arith in
    false≢true (ap (λ m. same_man m BlackP) (sym is ∙ ap (man_at men) (sym back)) ∙ t.1)
not_stepped Black men a b w e is =
    let x = eqb-true a (b + 8) e in
    let t = four_parts (rank_of b == 2) (stands men b Empty) (stands men (b + 8) P) (stands men (b - 8) Empty) w in
    let back : b + 8 ≡ a = omega arith in
    false≢true (ap (λ m. same_man m P) (sym is ∙ ap (man_at men) (sym back)) ∙ t.1)

not_double : (side : Side) (men : List Man) (a b : ℕ) → was_passed men side b ≡ true → is_double_step side a b ≡ true → ⊥
not_double White men a b w e =
    let d = and_parts (rank_of a == 1) (b == a + 16) e in let x = eqb-true b (a + 16) d.1 in let y = eqb-true (rank_of a) 1 d.0 in
    let z = eqb-true (rank_of b) 5 (four_parts (rank_of b == 5) (stands men b Empty) (stands men (b - 8) BlackP) (stands men (b + 8) Empty) w).0 in omega arith
not_double Black men a b w e =
    let d = and_parts (rank_of a == 6) (a == b + 16) e in let x = eqb-true a (b + 16) d.1 in let y = eqb-true (rank_of a) 6 d.0 in
    let z = eqb-true (rank_of b) 2 (four_parts (rank_of b == 2) (stands men b Empty) (stands men (b + 8) P) (stands men (b - 8) Empty) w).0 in omega arith

goal_passed : (men : List Man) (side : Side) (passant : Option ℕ) (b : ℕ) → passant_stands men side passant ≡ true → is_goal passant b ≡ true → was_passed men side b ≡ true
goal_passed men side None b stands_ goal = absurd (false≢true goal)
goal_passed men side (Some square) b stands_ goal = subst (λ s. was_passed men side s ≡ true) (eqb-true square b goal) stands_

empty_not_theirs : (side : Side) (man : Man) → man ≡ Empty → is_of_side side man ≡ false
empty_not_theirs White man is = ap (is_of_side White) is
empty_not_theirs Black man is = ap (is_of_side Black) is

-- an empty square on which a pawn captures was just passed by a pawn
passed_there : (p : Board) (b : ℕ) → passant_stands p.men p.side p.passant ≡ true → man_at p.men b ≡ Empty
    → (is_of_side (opponent p.side) (man_at p.men b) || is_goal p.passant b) ≡ true → was_passed p.men p.side b ≡ true
passed_there p b kept empty takes_ =
    elim (or_cases (is_of_side (opponent p.side) (man_at p.men b)) (is_goal p.passant b) takes_) [
      | inl theirs ↦ absurd (false≢true (sym (empty_not_theirs (opponent p.side) (man_at p.men b) empty) ∙ theirs))
      | inr goal ↦ goal_passed p.men p.side p.passant b kept goal
    ]

-- a capture captures
theirs_occupied : (side : Side) (men : List Man) (b : ℕ) → is_of_side side (man_at men b) ≡ true → is_occupied men b ≡ true
theirs_occupied side men b theirs =
    not_from_false (stands men b Empty) (false_from_ne_true (stands men b Empty) (λ is. false≢true (sym (empty_not_theirs side (man_at men b) (stands-is men b Empty is)) ∙ theirs)))

capture_takes : (p : Board) (m : Move) → is_pawn (man_at p.men m.from) ≡ true → is_pawn_attack p.side m.from m.to ≡ true
    → (is_of_side (opponent p.side) (man_at p.men m.to) || is_goal p.passant m.to) ≡ true → is_capture p m ≡ true
capture_takes p m pawn attack takes_ =
    elim (or_cases (is_of_side (opponent p.side) (man_at p.men m.to)) (is_goal p.passant m.to) takes_) [
      | inl theirs ↦ or_left (is_occupied p.men m.to) (is_en_passant_capture p m) (theirs_occupied (opponent p.side) p.men m.to theirs)
      | inr goal ↦ or_right (is_occupied p.men m.to) (is_en_passant_capture p m)
          (and_from (is_pawn (man_at p.men m.from) && (files_apart m.from m.to == 1)) (is_goal p.passant m.to)
          (and_from (is_pawn (man_at p.men m.from)) (files_apart m.from m.to == 1) pawn (capture_apart p.side m.from m.to attack)) goal)
    ]

module _ (p : Board) (a c b : ℕ) (kept : passant_stands p.men p.side p.passant ≡ true) (from_a : man_at p.men a ≡ pawn_of p.side) (from_c : man_at p.men c ≡ pawn_of p.side) where
  pawn_there : (side : Side) (square : ℕ) (man : Man) → man_at p.men square ≡ Empty → man_at p.men square ≡ man → man ≡ pawn_of side → ⊥
  pawn_there White square man empty there is = let e : Empty ≡ P = sym empty ∙ there ∙ is in absurd (false≢true (ap (λ m. same_man m P) e))
  pawn_there Black square man empty there is = let e : Empty ≡ BlackP = sym empty ∙ there ∙ is in absurd (false≢true (ap (λ m. same_man m BlackP) e))

  by_ways : Way p a b → Way p c b → (is_pawn_attack p.side a b ≡ true → (is_of_side (opponent p.side) (man_at p.men b) || is_goal p.passant b) ≡ true → file_of c ≡ file_of a) → c ≡ a
  by_ways (ahead e x) (ahead f y) same = two_singles p.side a c b e f
  by_ways (ahead e x) (double f mid y) same = absurd (pawn_there p.side a (pawn_of p.side) (sym (ap (man_at p.men) (single_passed p.side a c b e f)) ∙ mid) from_a refl)
  by_ways (ahead e x) (capture f t) same = absurd (not_stepped p.side p.men a b (passed_there p b kept x t) e from_a)
  by_ways (double e mid x) (ahead f y) same = absurd (pawn_there p.side c (pawn_of p.side) (sym (ap (man_at p.men) (single_passed p.side c a b f e)) ∙ mid) from_c refl)
  by_ways (double e mid x) (double f mid_ y) same = two_doubles p.side a c b e f
  by_ways (double e mid x) (capture f t) same = absurd (not_double p.side p.men a b (passed_there p b kept x t) e)
  by_ways (capture e t) (ahead f y) same = absurd (no_capture p.side a c b e (single_file p.side c b f) (same e t))
  by_ways (capture e t) (double f mid y) same = absurd (no_capture p.side a c b e (double_file p.side c b f) (same e t))
  by_ways (capture e t) (capture f u) same = two_captures p.side a c b e f (same e t)

as_pawn : (side : Side) (p : Board) (a b : ℕ) → goes_as (pawn_of side) p a b ≡ true → pawn_moves p a b ≡ true
as_pawn White p a b e = e
as_pawn Black p a b e = e

-- Two pawns of the side to move that go to one square, of which the second comes from the first one's file where that captures, are one.
pub pawn_origin : (p : Board) (m n : Move) → passant_stands p.men p.side p.passant ≡ true
    → is_of_side p.side (man_at p.men m.from) ≡ true → is_of_side p.side (man_at p.men n.from) ≡ true
    → is_pawn (man_at p.men m.from) ≡ true → is_pawn (man_at p.men n.from) ≡ true
    → goes_as (man_at p.men m.from) p m.from m.to ≡ true → goes_as (man_at p.men n.from) p n.from m.to ≡ true
    → (is_capture p m ≡ true → file_of n.from ≡ file_of m.from) → n.from ≡ m.from
pawn_origin p m n kept own own_n pawn pawn_n goes goes_n same =
    let is = own_pawn p.side (man_at p.men m.from) own pawn in
    let is_n = own_pawn p.side (man_at p.men n.from) own_n pawn_n in
    by_ways p m.from n.from m.to kept is is_n
    (way_of p m.from m.to (as_pawn p.side p m.from m.to (subst (λ man. goes_as man p m.from m.to ≡ true) is goes)))
    (way_of p n.from m.to (as_pawn p.side p n.from m.to (subst (λ man. goes_as man p n.from m.to ≡ true) is_n goes_n)))
    (λ attack takes_. same (capture_takes p m pawn attack takes_))
