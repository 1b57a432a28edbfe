-- The moves of a pawn by ranks and files.
use Rattle.std.proofs.Common.{◌≡◌, ◌≢◌, ℕ, ◌+◌, ◌-◌, ◌/◌, ◌<◌, Bool, true, false, cond, not, ◌&&◌, ◌||◌, Option, Some, None, List, length, refl, sym, ap, ◌∙◌, subst, inl, inr, arith}
use Rattle.std.specs.Prelude.{if◌then◌else◌, ◌==◌, slice_set}
use Rattle.std.proofs.lemmas.Bool.{eq-eqb, ne_eqb, eqb-true, cases_Bool, and_parts, or_cases, not-true, not-false}
use Rattle.cq_geometry.specs.Squares.{file_of, rank_of, square_of}
use Rattle.cq_geometry.specs.Steps.{files_apart, ranks_apart}
use Rattle.cq_position.specs.declared.men.Man.{Man}
use Rattle.cq_position.specs.declared.men.Man.TheVariants.{P, BlackP, Empty}
use Rattle.cq_position.specs.declared.men.Promotion.{Promotion}
use Rattle.cq_position.specs.declared.men.Promotion.TheVariants.{None as NoPromotion, Q as ToQueen, R as ToRook, B as ToBishop, N as ToKnight}
use Rattle.cq_position.specs.declared.men.Side.{Side}
use Rattle.cq_position.specs.declared.men.Side.TheVariants.{White, Black}
use Rattle.cq_position.specs.declared.moves.Move.{Move}
use Rattle.cq_position.specs.Men.{is_of_side, opponent, pawn_of}
use Rattle.cq_position.specs.Board.{Board, man_at, stands, is_pawn, was_passed, passant_stands}
use Rattle.cq_position.specs.Attacks.{is_goal, is_occupied, is_pawn_attack}
use Rattle.cq_position.specs.Legal.{goes_as, pawn_moves, pawn_promotion_is_right, is_none, promoted, last_rank, is_single_step, is_double_step, middle, men_moved, is_en_passant_capture}
use Rattle.cq_moves.proofs.Boards.{IsEdge, stands-is, stands_there, man_at-set_same, man_at-set_other, length-set_man}
use Rattle.cq_moves.proofs.Steps.{Goes, own_pawn, promoted-none}

-- a double step over an empty square to an empty square
pub record DoubleStep (men : List Man) (side : Side) (a b : ℕ) : Type 0 where
  pub step : is_double_step side a b ≡ true
  pub middle_empty : man_at men (middle a b) ≡ Empty
  pub goal_empty : man_at men b ≡ Empty

-- the three ways of a pawn
pub data PawnWay (men : List Man) (side : Side) (a b : ℕ) : Type 0 where
  ahead : is_single_step side a b ≡ true → PawnWay men side a b
  double : DoubleStep men side a b → PawnWay men side a b
  capture : is_pawn_attack side a b ≡ true → PawnWay men side a b

pub record PawnGoes (p : Board) (m : Move) : Type 0 where
  pub way : PawnWay p.men p.side m.from m.to
  pub promotes : pawn_promotion_is_right p.side m ≡ true

empty_square : (men : List Man) (square : ℕ) → not (is_occupied men square) ≡ true → man_at men square ≡ Empty
empty_square men square e = stands-is men square Empty (not-false (stands men square Empty) (not-true (is_occupied men square) e))

double_so : (men : List Man) (side : Side) (a b : ℕ) → (is_double_step side a b && not (is_occupied men (middle a b)) && not (is_occupied men b)) ≡ true → DoubleStep men side a b
double_so men side a b e =
    let last = and_parts (is_double_step side a b && not (is_occupied men (middle a b))) (not (is_occupied men b)) e in
    let first = and_parts (is_double_step side a b) (not (is_occupied men (middle a b))) last.0 in
    record { step = first.0; middle_empty = empty_square men (middle a b) first.1; goal_empty = empty_square men b last.1 }

way_of : (p : Board) (a b : ℕ) → pawn_moves p a b ≡ true → PawnWay p.men p.side a b
way_of p a b e =
    let step = is_single_step p.side a b && not (is_occupied p.men b) in
    let two = is_double_step p.side a b && not (is_occupied p.men (middle a b)) && not (is_occupied p.men b) in
    let takes = is_of_side (opponent p.side) (man_at p.men b) || is_goal p.passant b in
    elim (or_cases (step || two) (is_pawn_attack p.side a b && takes) e) [
      | inl rest ↦ elim (or_cases step two rest) [
        | inl h ↦ ahead (and_parts (is_single_step p.side a b) (not (is_occupied p.men b)) h).0
        | inr h ↦ double (double_so p.men p.side a b h)
      ]
      | inr h ↦ capture (and_parts (is_pawn_attack p.side a b) takes h).0
    ]

as_pawn : (side : Side) (p : Board) (a b : ℕ) → goes_as (pawn_of side) p a b ≡ true → pawn_moves p a b ≡ true
as_pawn White p a b e = e
as_pawn Black p a b e = e

pub pawn_goes : (p : Board) (m : Move) → Goes p m → is_pawn (man_at p.men m.from) ≡ true → PawnGoes p m
pawn_goes p m g pawn =
    let own = own_pawn p.side (man_at p.men m.from) g.own pawn in
    let steps = as_pawn p.side p m.from m.to (subst (λ (man : Man). goes_as man p m.from m.to ≡ true) own g.goes) in
    record {
      way = way_of p m.from m.to steps;
      promotes = sym (ap (λ t. cond t (pawn_promotion_is_right p.side m) (is_none m.promotion)) pawn) ∙ g.promotes_so;
    }

-- a pawn's goal is not on the first rank as its side sees it
ahead_up : (side : Side) (a b : ℕ) → a < 64 → b < 64 → is_single_step side a b ≡ true → rank_of b ≢ last_rank (opponent side)
ahead_up White a b h k e = let is = eqb-true b (a + 8) e in omega arith
ahead_up Black a b h k e = let is = eqb-true a (b + 8) e in omega arith

double_up : (side : Side) (a b : ℕ) → a < 64 → b < 64 → is_double_step side a b ≡ true → rank_of b ≢ last_rank (opponent side)
double_up White a b h k e = let is = eqb-true b (a + 16) (and_parts (rank_of a == 1) (b == a + 16) e).1 in omega arith
double_up Black a b h k e = let is = eqb-true a (b + 16) (and_parts (rank_of a == 6) (a == b + 16) e).1 in omega arith

capture_up : (side : Side) (a b : ℕ) → a < 64 → b < 64 → is_pawn_attack side a b ≡ true → rank_of b ≢ last_rank (opponent side)
capture_up White a b h k e = let is = eqb-true (rank_of b) (rank_of a + 1) (and_parts (rank_of b == rank_of a + 1) (files_apart a b == 1) e).0 in omega arith
capture_up Black a b h k e = let is = eqb-true (rank_of a) (rank_of b + 1) (and_parts (rank_of a == rank_of b + 1) (files_apart a b == 1) e).0 in omega arith

goes_up : (men : List Man) (side : Side) (a b : ℕ) → a < 64 → b < 64 → PawnWay men side a b → rank_of b ≢ last_rank (opponent side)
goes_up men side a b h k (ahead e) = ahead_up side a b h k e
goes_up men side a b h k (double d) = double_up side a b h k d.step
goes_up men side a b h k (capture e) = capture_up side a b h k e

edge_ranks : (side : Side) (square : ℕ) → square < 64 → IsEdge square → rank_of square ≢ last_rank (opponent side) → rank_of square ≡ last_rank side
edge_ranks White square h (inl low) up = absurd (up (omega arith))
edge_ranks White square h (inr high) up = omega arith
edge_ranks Black square h (inl low) up = omega arith
edge_ranks Black square h (inr high) up = absurd (up (omega arith))

promoted-no_pawn : (side : Side) (promotion : Promotion) (man : Man) → is_none promotion ≡ false → is_pawn (promoted side promotion man) ≡ false
promoted-no_pawn side NoPromotion man e = absurd (cc)
promoted-no_pawn White ToQueen man e = refl
promoted-no_pawn White ToRook man e = refl
promoted-no_pawn White ToBishop man e = refl
promoted-no_pawn White ToKnight man e = refl
promoted-no_pawn Black ToQueen man e = refl
promoted-no_pawn Black ToRook man e = refl
promoted-no_pawn Black ToBishop man e = refl
promoted-no_pawn Black ToKnight man e = refl

must_promote : (there none : Bool) → (if there then not none else none) ≡ true → there ≡ true → none ≡ false
must_promote true none e t = not-true none e
must_promote false none e t = absurd (cc)

-- no pawn lands on the first or the last rank
pub no_pawn_lands : (p : Board) (m : Move) → Goes p m → IsEdge m.to → is_pawn (promoted p.side m.promotion (man_at p.men m.from)) ≡ false
no_pawn_lands p m g edge =
    let man = man_at p.men m.from in
    elim (cases_Bool (is_pawn man)) [
      | inl pawn ↦
          let goes = pawn_goes p m g pawn in
          let up = goes_up p.men p.side m.from m.to g.from_board g.to_board goes.way in
          let there = eq-eqb (rank_of m.to) (last_rank p.side) (edge_ranks p.side m.to g.to_board edge up) in
          promoted-no_pawn p.side m.promotion man (must_promote (rank_of m.to == last_rank p.side) (is_none m.promotion) goes.promotes there)
      | inr piece ↦
          let none = sym (ap (λ t. cond t (pawn_promotion_is_right p.side m) (is_none m.promotion)) piece) ∙ g.promotes_so in
          ap is_pawn (promoted-none p.side m.promotion man none) ∙ piece
    ]

may_not_promote : (there none : Bool) → (if there then not none else none) ≡ true → there ≡ false → none ≡ true
may_not_promote true none e t = absurd (cc)
may_not_promote false none e t = e

-- a pawn that goes two ranks makes a double step
two_ranks : (men : List Man) (side : Side) (a b : ℕ) → PawnWay men side a b → ranks_apart a b ≡ 2 → DoubleStep men side a b
two_ranks men side a b (double d) two = d
two_ranks men White a b (ahead e) two = let is = eqb-true b (a + 8) e in absurd (omega arith)
two_ranks men Black a b (ahead e) two = let is = eqb-true a (b + 8) e in absurd (omega arith)
two_ranks men White a b (capture e) two = let is = eqb-true (rank_of b) (rank_of a + 1) (and_parts (rank_of b == rank_of a + 1) (files_apart a b == 1) e).0 in absurd (omega arith)
two_ranks men Black a b (capture e) two = let is = eqb-true (rank_of a) (rank_of b + 1) (and_parts (rank_of a == rank_of b + 1) (files_apart a b == 1) e).0 in absurd (omega arith)

double_inside : (side : Side) (a b : ℕ) → is_double_step side a b ≡ true → rank_of b ≢ last_rank side
double_inside White a b e = let t = and_parts (rank_of a == 1) (b == a + 16) e in let r = eqb-true (rank_of a) 1 t.0 in let is = eqb-true b (a + 16) t.1 in omega arith
double_inside Black a b e = let t = and_parts (rank_of a == 6) (a == b + 16) e in let r = eqb-true (rank_of a) 6 t.0 in let is = eqb-true a (b + 16) t.1 in omega arith

four_true : (a b c d : Bool) → a ≡ true → b ≡ true → c ≡ true → d ≡ true → (a && b && c && d) ≡ true
four_true a b c d p q r s = rw (p, q, r, s) refl

-- behind the pawn that made a double step is the square that it passed
passed_behind : (side : Side) (men : List Man) (a b : ℕ) → length men ≡ 64 → a < 64 → b < 64 → DoubleStep men side a b
    → was_passed (slice_set (slice_set men a Empty) b (pawn_of side)) (opponent side) (middle a b) ≡ true
passed_behind White men a b w ha hb d =
    let t = and_parts (rank_of a == 1) (b == a + 16) d.step in
    let r = eqb-true (rank_of a) 1 t.0 in
    let is = eqb-true b (a + 16) t.1 in
    let square = middle a b in
    let left = slice_set men a Empty in
    let after = slice_set left b P in
    let front : square + 8 ≡ b = omega arith in
    let back : square - 8 ≡ a = omega arith in
    let here : man_at after square ≡ Empty = man_at-set_other left b square P (omega arith) ∙ man_at-set_other men a square Empty (omega arith) ∙ d.middle_empty in
    let pawn : man_at after (square + 8) ≡ P = ap (man_at after) front ∙ man_at-set_same left b P (omega (arith, length-set_man men a Empty w)) in
    let home : man_at after (square - 8) ≡ Empty = ap (man_at after) back ∙ man_at-set_other left b a P (omega arith) ∙ man_at-set_same men a Empty (omega arith) in
    four_true (square / 8 == 2) (stands after square Empty) (stands after (square + 8) P) (stands after (square - 8) Empty)
    (eq-eqb (square / 8) 2 (omega arith)) (stands_there after square Empty here) (stands_there after (square + 8) P pawn) (stands_there after (square - 8) Empty home)
passed_behind Black men a b w ha hb d =
    let t = and_parts (rank_of a == 6) (a == b + 16) d.step in
    let r = eqb-true (rank_of a) 6 t.0 in
    let is = eqb-true a (b + 16) t.1 in
    let square = middle a b in
    let left = slice_set men a Empty in
    let after = slice_set left b BlackP in
    let front : square - 8 ≡ b = omega arith in
    let back : square + 8 ≡ a = omega arith in
    let here : man_at after square ≡ Empty = man_at-set_other left b square BlackP (omega arith) ∙ man_at-set_other men a square Empty (omega arith) ∙ d.middle_empty in
    let pawn : man_at after (square - 8) ≡ BlackP = ap (man_at after) front ∙ man_at-set_same left b BlackP (omega (arith, length-set_man men a Empty w)) in
    let home : man_at after (square + 8) ≡ Empty = ap (man_at after) back ∙ man_at-set_other left b a BlackP (omega arith) ∙ man_at-set_same men a Empty (omega arith) in
    four_true (square / 8 == 5) (stands after square Empty) (stands after (square - 8) BlackP) (stands after (square + 8) Empty)
    (eq-eqb (square / 8) 5 (omega arith)) (stands_there after square Empty here) (stands_there after (square - 8) BlackP pawn) (stands_there after (square + 8) Empty home)

pub double_passed : (p : Board) (m : Move) → length p.men ≡ 64 → Goes p m → is_pawn (man_at p.men m.from) ≡ true → ranks_apart m.from m.to ≡ 2
    → was_passed (men_moved p m) (opponent p.side) (middle m.from m.to) ≡ true
double_passed p m w g pawn two =
    let man = man_at p.men m.from in
    let goes = pawn_goes p m g pawn in
    let d = two_ranks p.men p.side m.from m.to goes.way two in
    let inside = ne_eqb (rank_of m.to) (last_rank p.side) (double_inside p.side m.from m.to d.step) in
    let none = may_not_promote (rank_of m.to == last_rank p.side) (is_none m.promotion) goes.promotes inside in
    let lands : promoted p.side m.promotion man ≡ pawn_of p.side = promoted-none p.side m.promotion man none ∙ own_pawn p.side man g.own pawn in
    ap (λ x. was_passed (slice_set (slice_set p.men m.from Empty) m.to x) (opponent p.side) (middle m.from m.to)) lands
    ∙ passed_behind p.side p.men m.from m.to w g.from_board g.to_board d

-- a pawn that goes to another file captures
one_file : (men : List Man) (side : Side) (a b : ℕ) → PawnWay men side a b → files_apart a b ≡ 1 → is_pawn_attack side a b ≡ true
one_file men side a b (capture e) one = e
one_file men White a b (ahead e) one = let is = eqb-true b (a + 8) e in absurd (omega arith)
one_file men Black a b (ahead e) one = let is = eqb-true a (b + 8) e in absurd (omega arith)
one_file men White a b (double d) one = let is = eqb-true b (a + 16) (and_parts (rank_of a == 1) (b == a + 16) d.step).1 in absurd (omega arith)
one_file men Black a b (double d) one = let is = eqb-true a (b + 16) (and_parts (rank_of a == 6) (a == b + 16) d.step).1 in absurd (omega arith)

-- the square beside a capturing pawn, where the pawn stands that it captures on the en passant square
abbrev pub beside : ℕ → ℕ → ℕ
beside a b = square_of (file_of b) (rank_of a)

pub record Captures (men : List Man) (side : Side) (a b : ℕ) : Type 0 where
  pub files : files_apart a b ≡ 1
  pub board : beside a b < 64
  pub off_from : beside a b ≢ a
  pub off_to : beside a b ≢ b
  pub pawn : man_at men (beside a b) ≡ pawn_of (opponent side)

captures : (side : Side) (men : List Man) (a b : ℕ) → a < 64 → b < 64 → is_pawn_attack side a b ≡ true → was_passed men side b ≡ true → Captures men side a b
captures White men a b ha hb attack passed =
    let t = and_parts (rank_of b == rank_of a + 1) (files_apart a b == 1) attack in
    let up = eqb-true (rank_of b) (rank_of a + 1) t.0 in
    let one = eqb-true (files_apart a b) 1 t.1 in
    let last = and_parts ((b / 8 == 5) && stands men b Empty && stands men (b - 8) BlackP) (stands men (b + 8) Empty) passed in
    let front = and_parts ((b / 8 == 5) && stands men b Empty) (stands men (b - 8) BlackP) last.0 in
    let rank = eqb-true (b / 8) 5 (and_parts (b / 8 == 5) (stands men b Empty) front.0).0 in
    let there : beside a b ≡ b - 8 = omega arith in
    record {
      files = one;
      board = omega arith;
      off_from = omega arith;
      off_to = omega arith;
      pawn = ap (man_at men) there ∙ stands-is men (b - 8) BlackP front.1;
    }
captures Black men a b ha hb attack passed =
    let t = and_parts (rank_of a == rank_of b + 1) (files_apart a b == 1) attack in
    let up = eqb-true (rank_of a) (rank_of b + 1) t.0 in
    let one = eqb-true (files_apart a b) 1 t.1 in
    let last = and_parts ((b / 8 == 2) && stands men b Empty && stands men (b + 8) P) (stands men (b - 8) Empty) passed in
    let front = and_parts ((b / 8 == 2) && stands men b Empty) (stands men (b + 8) P) last.0 in
    let rank = eqb-true (b / 8) 2 (and_parts (b / 8 == 2) (stands men b Empty) front.0).0 in
    let there : beside a b ≡ b + 8 = omega arith in
    record {
      files = one;
      board = omega arith;
      off_from = omega arith;
      off_to = omega arith;
      pawn = ap (man_at men) there ∙ stands-is men (b + 8) P front.1;
    }

passed_goal : (men : List Man) (side : Side) (passant : Option ℕ) (square : ℕ) → is_goal passant square ≡ true → passant_stands men side passant ≡ true
    → was_passed men side square ≡ true
passed_goal men side None square e t = absurd (cc)
passed_goal men side (Some goal) square e t = ap (was_passed men side) (sym (eqb-true goal square e)) ∙ t

pub captures_when : (p : Board) (m : Move) → passant_stands p.men p.side p.passant ≡ true → Goes p m → is_en_passant_capture p m ≡ true → Captures p.men p.side m.from m.to
captures_when p m stood g e =
    let t = and_parts (is_pawn (man_at p.men m.from) && (files_apart m.from m.to == 1)) (is_goal p.passant m.to) e in
    let s = and_parts (is_pawn (man_at p.men m.from)) (files_apart m.from m.to == 1) t.0 in
    let attack = one_file p.men p.side m.from m.to (pawn_goes p m g s.0).way (eqb-true (files_apart m.from m.to) 1 s.1) in
    captures p.side p.men m.from m.to g.from_board g.to_board attack (passed_goal p.men p.side p.passant m.to t.1 stood)

attack_is_short : (side : Side) (a b : ℕ) → is_pawn_attack side a b ≡ true → ranks_apart a b ≡ 2 → ⊥
attack_is_short White a b e two = let is = eqb-true (rank_of b) (rank_of a + 1) (and_parts (rank_of b == rank_of a + 1) (files_apart a b == 1) e).0 in omega arith
attack_is_short Black a b e two = let is = eqb-true (rank_of a) (rank_of b + 1) (and_parts (rank_of a == rank_of b + 1) (files_apart a b == 1) e).0 in omega arith

pub two_ranks_one_file : (p : Board) (m : Move) → Goes p m → is_pawn (man_at p.men m.from) ≡ true → ranks_apart m.from m.to ≡ 2 → files_apart m.from m.to ≡ 1 → ⊥
two_ranks_one_file p m g pawn two one =
    let attack = one_file p.men p.side m.from m.to (pawn_goes p m g pawn).way one in
    attack_is_short p.side m.from m.to attack two
