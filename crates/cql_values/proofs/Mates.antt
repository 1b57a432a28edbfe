-- Mate and stalemate as tests.
use Rattle.std.proofs.Common.{◌≡◌, Bool, true, not, ◌&&◌, ◌↔◌, length, sym, ap, ◌∙◌}
use Rattle.std.proofs.lemmas.Bool.{false_from_ne_true, not-true, false≢true}
use Rattle.cq_position.specs.Board.{Board}
use Rattle.cq_position.specs.Attacks.{in_check}
use Rattle.cq_position.specs.Legality.{has_legal_move}
use Rattle.cq_position.proofs.Legality.{legal_move_law}
use Rattle.cq_moves.specs.Mate.{HasLegalMove, IsMate, IsStalemate}
use Rattle.cql_values.proofs.Ranges.{same_truth, left, right, both}

no_move : (p : Board) → length p.men ≡ 64 → not (has_legal_move p) ≡ true → ¬ HasLegalMove p
no_move p long e l = false≢true (sym (not-true (has_legal_move p) e) ∙ (legal_move_law p long).1 l)

stuck : (p : Board) → length p.men ≡ 64 → ¬ HasLegalMove p → not (has_legal_move p) ≡ true
stuck p long none = ap not (false_from_ne_true (has_legal_move p) (λ e. none ((legal_move_law p long).0 e)))

pub mate_is : (p : Board) (b : Bool) → length p.men ≡ 64 → (b ≡ true) ↔ IsMate p → b ≡ (in_check p.men p.side && not (has_legal_move p))
mate_is p b long law = same_truth b (in_check p.men p.side && not (has_legal_move p))
    (λ e. let m = law.0 e in both (in_check p.men p.side) (not (has_legal_move p)) m.check (stuck p long m.no_legal_move))
    (λ e. law.1 (record { check = left (in_check p.men p.side) (not (has_legal_move p)) e; no_legal_move = no_move p long (right (in_check p.men p.side) (not (has_legal_move p)) e) }))

pub stalemate_is : (p : Board) (b : Bool) → length p.men ≡ 64 → (b ≡ true) ↔ IsStalemate p → b ≡ (not (in_check p.men p.side) && not (has_legal_move p))
stalemate_is p b long law = same_truth b (not (in_check p.men p.side) && not (has_legal_move p))
    (λ e. let m = law.0 e in both (not (in_check p.men p.side)) (not (has_legal_move p)) (ap not m.no_check) (stuck p long m.no_legal_move))
    (λ e. law.1 (record {
      no_check = not-true (in_check p.men p.side) (left (not (in_check p.men p.side)) (not (has_legal_move p)) e);
      no_legal_move = no_move p long (right (not (in_check p.men p.side)) (not (has_legal_move p)) e);
    }))
