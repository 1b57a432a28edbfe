-- Conditions under which a move leaves the king safe.
use Rattle.std.proofs.Common.{◌≡◌, ◌≢◌, ℕ, ◌<◌, true, false, cond, not, ◌==◌, length, refl, sym, ap, ◌∙◌, inl, inr, arith}
use Rattle.std.specs.Prelude.{slice_set, nat_lt}
use Rattle.std.proofs.lemmas.Bool.{cases_eq, cond-true, cond-false, eq-eqb, eqb-true, false_from_ne_true, not_from_false, and_parts}
use Rattle.cq_geometry.specs.Steps.{files_apart}
use Rattle.cq_position.specs.declared.men.Man.{Man}
use Rattle.cq_position.specs.declared.men.Man.TheVariants.{K, Q, R, B, N, P, BlackK, BlackQ, BlackR, BlackB, BlackN, BlackP, Empty}
use Rattle.cq_position.specs.declared.men.Side.{Side}
use Rattle.cq_position.specs.declared.men.Side.TheVariants.{White, Black}
use Rattle.cq_position.specs.declared.moves.Move.{Move}
use Rattle.cq_position.specs.Men.{same_man, is_of_side, opponent, king_of}
use Rattle.cq_position.specs.Board.{Board, man_at, stands}
use Rattle.cq_position.specs.Position.{IsPosition}
use Rattle.cq_position.specs.Attacks.{is_attacked}
use Rattle.cq_position.specs.King.{IsKingSquare}
use Rattle.cq_position.specs.Legal.{is_pseudo_legal, is_castling, is_en_passant_capture, men_moved, men_after, rook_moved, promoted}
use Rattle.cq_position.specs.Legality.{is_safe}
use Rattle.cq_position.proofs.Kings.{king_there, one_of_each, check_is_at_king}
use Rattle.cq_position.proofs.Shields.{covers_only}
use Rattle.cq_moves.specs.Internal.Mover.{king_after, IsUnexposed}
use Rattle.cq_moves.proofs.Boards.{stands-is, man_at-set_same, man_at-set_other, length-set_man, EdgeFree-from}
use Rattle.cq_moves.proofs.Steps.{Goes, goes, it_lands}
use Rattle.cq_moves.proofs.Castled.{castling_squares}
use Rattle.cq_moves.proofs.Pawns.{beside}
use Rattle.cq_moves.proofs.Ways.{Way, castled, captured, moved, way_after, moved_other, rook_other}
use Rattle.cq_moves.proofs.Kept.{after_keeps, king_not_pawn}

own_king : (side : Side) → is_of_side side (king_of side) ≡ true
own_king White = refl
own_king Black = refl

-- the man stands on the goal
lands_there : (p : Board) (m : Move) → length p.men ≡ 64 → Goes p m → man_at (men_moved p m) m.to ≡ promoted p.side m.promotion (man_at p.men m.from)
lands_there p m w g =
    man_at-set_same (slice_set p.men m.from Empty) m.to (promoted p.side m.promotion (man_at p.men m.from))
    (omega (arith, g.to_board, length-set_man p.men m.from Empty w))

-- on the goal stands what landed there, whatever else the move does
goal_after : (p : Board) (m : Move) → length p.men ≡ 64 → Goes p m → Way p m → man_at (men_after p m) m.to ≡ promoted p.side m.promotion (man_at p.men m.from)
goal_after p m w g (castled kingside king c is) =
    let s = castling_squares p.side kingside in
    ap (λ x. man_at x m.to) is
    ∙ rook_other (men_moved p m) p.side kingside m.to (λ e. s.rook_goal (sym e ∙ c.to_is)) (λ e. s.crossed_goal (sym e ∙ c.to_is))
    ∙ lands_there p m w g
goal_after p m w g (captured c is) =
    ap (λ x. man_at x m.to) is
    ∙ man_at-set_other (men_moved p m) (beside m.from m.to) m.to Empty (λ e. c.off_to (sym e))
    ∙ lands_there p m w g
goal_after p m w g (moved is) = ap (λ x. man_at x m.to) is ∙ lands_there p m w g

-- no king of the side stands on the goal
off_goal : (p : Board) (m : Move) (k : ℕ) → IsKingSquare p.men p.side k → Goes p m → k ≢ m.to
off_goal p m k at g e =
    let king = stands-is p.men k (king_of p.side) at.there in
    let bad : false ≡ true = sym g.not_own ∙ ap (λ s. is_of_side p.side (man_at p.men s)) (sym e) ∙ ap (is_of_side p.side) king ∙ own_king p.side in
    cc

-- a king that doesn't move stands where it stood
king_stays : (p : Board) (m : Move) (k : ℕ) → IsKingSquare p.men p.side k → Goes p m → Way p m → m.from ≢ k
    → man_at (men_after p m) k ≡ man_at p.men k
king_stays p m k at g (castled kingside king c is) other = absurd (other (at.only m.from king))
king_stays p m k at g (captured c is) other =
    let king = stands-is p.men k (king_of p.side) at.there in
    let off : k ≢ beside m.from m.to = λ e. king_not_pawn p.side (opponent p.side) (sym king ∙ ap (man_at p.men) e ∙ c.pawn) in
    ap (λ x. man_at x k) is
    ∙ man_at-set_other (men_moved p m) (beside m.from m.to) k Empty off
    ∙ moved_other p m k (λ e. other (sym e)) (off_goal p m k at g)
king_stays p m k at g (moved is) other =
    ap (λ x. man_at x k) is ∙ moved_other p m k (λ e. other (sym e)) (off_goal p m k at g)

king_is_there : (p : Board) (m : Move) (k : ℕ) → IsPosition p → IsKingSquare p.men p.side k → Goes p m → Way p m
    → stands (men_after p m) (king_after k m) (king_of p.side) ≡ true
king_is_there p m k i at g w =
    elim (cases_eq m.from k) [
      | inl e ↦
          let goal : king_after k m ≡ m.to = cond-true (m.from == k) m.to k (eq-eqb m.from k e) in
          let king = it_lands p m g in
          ap (λ s. stands (men_after p m) s (king_of p.side)) goal
          ∙ ap (λ x. same_man x (king_of p.side)) (goal_after p m i.whole g w)
          ∙ king.kings p.side
          ∙ ap (λ s. stands p.men s (king_of p.side)) e
          ∙ at.there
      | inr other ↦
          let goal : king_after k m ≡ k = cond-false (m.from == k) m.to k (false_from_ne_true (m.from == k) (λ e. other (eqb-true m.from k e))) in
          ap (λ s. stands (men_after p m) s (king_of p.side)) goal
          ∙ ap (λ x. same_man x (king_of p.side)) (king_stays p m k at g w other)
          ∙ at.there
    ]

king_square_after : (p : Board) (m : Move) (k : ℕ) → IsPosition p → IsKingSquare p.men p.side k → is_pseudo_legal p m ≡ true
    → IsKingSquare (men_after p m) p.side (king_after k m)
king_square_after p m k i at can =
    let g = goes p m i.whole can in
    let w = way_after p m i.passed g in
    let kept = after_keeps p m i.whole (EdgeFree-from p.men i.whole i.no_pawn_on_edge) i.rights g w in
    king_there (men_after p m) p.side (king_after k m) kept.whole (kept.kings p.side ∙ one_of_each p.men p.side i.kings)
    (king_is_there p m k i at g w)

-- the king is safe where its square is not attacked
pub safe_at_king : (p : Board) (m : Move) (k : ℕ) → IsPosition p → IsKingSquare p.men p.side k → is_pseudo_legal p m ≡ true
    → is_safe p m ≡ not (is_attacked (men_after p m) (opponent p.side) (king_after k m))
safe_at_king p m k i at can =
    ap not (check_is_at_king (men_after p m) p.side (king_after k m) (king_square_after p m k i at can))

-- a man of a side is none of the other side, and no empty square
own_not_other : (side : Side) (man : Man) → is_of_side side man ≡ true → (is_of_side (opponent side) man ≡ false) × (same_man man Empty ≡ false)
own_not_other White K h = (refl, refl)
own_not_other White Q h = (refl, refl)
own_not_other White R h = (refl, refl)
own_not_other White B h = (refl, refl)
own_not_other White N h = (refl, refl)
own_not_other White P h = (refl, refl)
own_not_other Black BlackK h = (refl, refl)
own_not_other Black BlackQ h = (refl, refl)
own_not_other Black BlackR h = (refl, refl)
own_not_other Black BlackB h = (refl, refl)
own_not_other Black BlackN h = (refl, refl)
own_not_other Black BlackP h = (refl, refl)
own_not_other White _ h = absurd (cc)
own_not_other Black _ h = absurd (cc)

only_moves : (p : Board) (m : Move) (k : ℕ) → IsKingSquare p.men p.side k → m.from ≢ k → is_en_passant_capture p m ≡ false → men_after p m ≡ men_moved p m
only_moves p m k at other none =
    let no_castling : is_castling p m ≡ false = false_from_ne_true (is_castling p m) (λ e.
    other (at.only m.from (and_parts (stands p.men m.from (king_of p.side)) (files_apart m.from m.to == 2) e).0)) in
    let removed = slice_set (men_moved p m) (beside m.from m.to) Empty in
    let plain = cond (is_en_passant_capture p m) removed (men_moved p m) in
    cond-false (is_castling p m) (rook_moved (men_moved p m) p.side (nat_lt m.from m.to)) plain no_castling
    ∙ cond-false (is_en_passant_capture p m) removed (men_moved p m) none

-- A man other than the king leaves it safe if the king would be safe without that man. A capture on the en passant square is an exception,
-- since it also takes another man from the board.
pub stays_safe : (p : Board) (m : Move) (k : ℕ) → IsPosition p → IsKingSquare p.men p.side k → m.from ≢ k
    → is_attacked (slice_set p.men m.from Empty) (opponent p.side) k ≡ false
    → is_pseudo_legal p m ≡ true → is_en_passant_capture p m ≡ false → is_safe p m ≡ true
stays_safe p m k i at other safe can none =
    let g = goes p m i.whole can in
    let lands = promoted p.side m.promotion (man_at p.men m.from) in
    let left = slice_set p.men m.from Empty in
    let own : is_of_side p.side lands ≡ true = (it_lands p m g).sides p.side ∙ g.own in
    let man = own_not_other p.side lands own in
    let goal : king_after k m ≡ k = cond-false (m.from == k) m.to k (false_from_ne_true (m.from == k) (λ e. other (eqb-true m.from k e))) in
    let low : m.to < length left = omega (arith, g.to_board, length-set_man p.men m.from Empty i.whole) in
    safe_at_king p m k i at can
    ∙ ap (λ s. not (is_attacked (men_after p m) (opponent p.side) s)) goal
    ∙ ap (λ x. not (is_attacked x (opponent p.side) k)) (only_moves p m k at other none)
    ∙ not_from_false (is_attacked (men_moved p m) (opponent p.side) k) (covers_only left (opponent p.side) m.to lands k low man.0 man.1 safe)

pub unexposed : (p : Board) (k from : ℕ) → IsPosition p → IsKingSquare p.men p.side k → from ≢ k
    → is_attacked (slice_set p.men from Empty) (opponent p.side) k ≡ false → IsUnexposed p from
unexposed p k from i at other safe = record {
  safe = λ m e can none.
      stays_safe p m k i at (λ f. other (sym e ∙ f)) (ap (λ s. is_attacked (slice_set p.men s Empty) (opponent p.side) k) e ∙ safe) can none;
}
