-- The test of legality is the legal relation.
use Rattle.std.proofs.Common.{◌≡◌, ℕ, ◌<◌, Bool, true, false, not, ◌&&◌, ◌↔◌, List, length, get_or, refl, sym, ap, ◌∙◌, inl, inr, arith}
use Rattle.std.specs.Prelude.{nat_lt}
use Rattle.std.specs.List.{list_any}
use Rattle.std.proofs.lemmas.Bool.{and_parts, and_from, not-true, not_from_false, cases_lt, ltb-true}
use Rattle.std.proofs.lemmas.List.{get_or_past}
use Rattle.std.proofs.lemmas.List.Folds.{Any-from_list_any, list_any_at}
use Rattle.std.proofs.lemmas.List.FromFn.{get_or-range_with_len}
use Rattle.cq_geometry.specs.Squares.{squares}
use Rattle.cq_position.specs.declared.men.Man.{Man}
use Rattle.cq_position.specs.declared.men.Man.TheVariants.{Empty}
use Rattle.cq_position.specs.declared.men.Promotion.{Promotion}
use Rattle.cq_position.specs.declared.men.Promotion.TheVariants.{None as NoPromotion, Q as ToQueen, R as ToRook, B as ToBishop, N as ToKnight}
use Rattle.cq_position.specs.declared.men.Side.{Side}
use Rattle.cq_position.specs.declared.men.Side.TheVariants.{White, Black}
use Rattle.cq_position.specs.declared.moves.Move.{Move}
use Rattle.cq_position.specs.Board.{Board, man_at, stands}
use Rattle.cq_position.specs.Attacks.{in_check}
use Rattle.cq_position.specs.Men.{is_of_side, opponent, king_of}
use Rattle.cq_position.specs.Legal.{is_pseudo_legal, reaches, goes_as, promotion_is_right, men_after, after, Legal}
use Rattle.cq_position.specs.Legality.{is_safe, legal_test, ordinary, promotions, has_legal_move}

-- a move that passes the test is legal
pub test_leads : (p : Board) (m : Move) → legal_test p m ≡ true → Legal p m (after p m)
unfolding legal_test after
test_leads p m h =
    let both = and_parts (is_pseudo_legal p m) (is_safe p m) h in
    record { moves = both.0; leads = refl; safe = not-true (in_check (men_after p m) p.side) both.1 }

-- a legal move passes the test
pub legal_passes : (p : Board) (m : Move) (q : Board) → Legal p m q → legal_test p m ≡ true
unfolding legal_test after
legal_passes p m q l =
    let safe : in_check (men_after p m) p.side ≡ false = ap (λ (b : Board). in_check b.men p.side) (sym l.leads) ∙ l.safe in
    and_from (is_pseudo_legal p m) (is_safe p m) l.moves (not_from_false (in_check (men_after p m) p.side) safe)

-- the test is true exactly where the move leads to some position
pub legal_law : (p : Board) (m : Move) → (legal_test p m ≡ true) ↔ ((q : Board) × Legal p m q)
legal_law p m = (λ h. (after p m, test_leads p m h), λ l. legal_passes p m l.0 l.1)

-- a move that passes is found
legal_found : (p : Board) → has_legal_move p ≡ true → (m : Move) × (q : Board) × Legal p m q
unfolding has_legal_move
legal_found p h =
    let a = Any-from_list_any (λ a. list_any (λ b. list_any (λ x. legal_test p (ordinary a b x)) promotions) squares) squares h in
    let b = Any-from_list_any (λ b. list_any (λ x. legal_test p (ordinary a.1 b x)) promotions) squares a.4 in
    let x = Any-from_list_any (λ x. legal_test p (ordinary a.1 b.1 x)) promotions b.4 in
    (ordinary a.1 b.1 x.1, after p (ordinary a.1 b.1 x.1), test_leads p (ordinary a.1 b.1 x.1) x.4)

some_square : (test : ℕ → Bool) (s : ℕ) → s < 64 → test s ≡ true → list_any test squares ≡ true
unfolding squares
some_square test s low e =
    let within : s < length squares = omega arith in
    let at : get_or squares s 0 ≡ s = get_or-range_with_len 0 64 s 0 low ∙ (omega arith) in
    list_any_at test squares s 0 within (ap test at ∙ e)

some_promotion : (test : Promotion → Bool) (x : Promotion) → test x ≡ true → list_any test promotions ≡ true
some_promotion test NoPromotion e = list_any_at test promotions 0 NoPromotion (omega arith) e
some_promotion test ToQueen e = list_any_at test promotions 1 NoPromotion (omega arith) e
some_promotion test ToRook e = list_any_at test promotions 2 NoPromotion (omega arith) e
some_promotion test ToBishop e = list_any_at test promotions 3 NoPromotion (omega arith) e
some_promotion test ToKnight e = list_any_at test promotions 4 NoPromotion (omega arith) e

no_side : (side : Side) → is_of_side side Empty ≡ false
no_side White = refl
no_side Black = refl

-- a man of a side stands on the board
on_board : (men : List Man) (side : Side) (s : ℕ) → length men ≡ 64 → is_of_side side (man_at men s) ≡ true → s < 64
on_board men side s long own = elim (cases_lt s 64) [
  | inl low ↦ low
  | inr high ↦
      let past : man_at men s ≡ Empty = get_or_past men s Empty (omega (arith, long, high)) in
      let bad : true ≡ false = sym own ∙ ap (is_of_side side) past ∙ no_side side in
      absurd (cc)
]

-- a legal move has its squares on the board, and is no null move
record OnBoard (m : Move) : Type 0 where
  from_board : m.from < 64
  to_board : m.to < 64
  is : m ≡ ordinary m.from m.to m.promotion

keeps_to_board : (p : Board) (m : Move) → length p.men ≡ 64 → is_pseudo_legal p m ≡ true → OnBoard m
unfolding is_pseudo_legal reaches
keeps_to_board p m long h =
    let reached = is_of_side p.side (man_at p.men m.from) && not (is_of_side p.side (man_at p.men m.to)) && not
    (stands p.men m.to (king_of (opponent p.side))) && goes_as (man_at p.men m.from) p m.from m.to in
    let last = and_parts (not m.null && nat_lt m.to 64 && reached) (promotion_is_right p m) h in
    let third = and_parts (not m.null && nat_lt m.to 64) reached last.0 in
    let first = and_parts (not m.null) (nat_lt m.to 64) third.0 in
    let own = is_of_side p.side (man_at p.men m.from) in
    let free = not (is_of_side p.side (man_at p.men m.to)) in
    let other = not (stands p.men m.to (king_of (opponent p.side))) in
    let r = and_parts (own && free && other) (goes_as (man_at p.men m.from) p m.from m.to) third.1 in
    let r' = and_parts (own && free) other r.0 in
    let r'' = and_parts own free r'.0 in
    record {
      from_board = on_board p.men p.side m.from long r''.0;
      to_board = ltb-true m.to 64 first.1;
      is = ap (λ (n : Bool). record m { null = n }) (not-true m.null first.0);
    }

-- a legal move passes for some squares and some promotion
legal_passing : (p : Board) → length p.men ≡ 64 → ((m : Move) × (q : Board) × Legal p m q) → has_legal_move p ≡ true
unfolding has_legal_move
legal_passing p long l =
    let m = l.0 in
    let on = keeps_to_board p m long l.2.moves in
    let passes : legal_test p (ordinary m.from m.to m.promotion) ≡ true = ap (legal_test p) (sym on.is) ∙ legal_passes p m l.1 l.2 in
    some_square (λ a. list_any (λ b. list_any (λ x. legal_test p (ordinary a b x)) promotions) squares) m.from on.from_board
    (some_square (λ b. list_any (λ x. legal_test p (ordinary m.from b x)) promotions) m.to on.to_board
    (some_promotion (λ x. legal_test p (ordinary m.from m.to x)) m.promotion passes))

pub legal_move_law : (p : Board) → length p.men ≡ 64 → (has_legal_move p ≡ true) ↔ ((m : Move) × (q : Board) × Legal p m q)
legal_move_law p long = (legal_found p, legal_passing p long)
