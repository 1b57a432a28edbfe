-- A side without a legal move.
use Rattle.std.proofs.Common.{◌≡◌, Bool, true, false, not, ◌↔◌, length, sym, ◌∙◌}
use Rattle.std.specs.List.{list_any}
use Rattle.std.proofs.lemmas.Bool.{not-true, not_from_false, false_from_ne_true, false≢true}
use Rattle.cq_position.specs.Board.{Board}
use Rattle.cq_position.specs.Attacks.{in_check}
use Rattle.cq_position.specs.Legality.{legal_test}
use Rattle.cq_moves.specs.LegalMoves.{all_moves}
use Rattle.cq_moves.specs.Mate.{HasLegalMove, IsMate, IsStalemate}
use Rattle.cq_moves.proofs.Order.{passing_is_legal, legal_is_passing}

stuck : (p : Board) → length p.men ≡ 64 → list_any (legal_test p) all_moves ≡ false → ¬ HasLegalMove p
stuck p long none l = false≢true (sym none ∙ legal_is_passing p long l)

-- mate, where there is check, is that no move passes the test
pub mate_law : (p : Board) (has : Bool) → length p.men ≡ 64 → has ≡ list_any (legal_test p) all_moves
    → in_check p.men p.side ≡ true → (not has ≡ true) ↔ IsMate p
mate_law p has long e check = (
  λ h. record { check = check; no_legal_move = stuck p long (sym e ∙ not-true has h) },
  λ mate. not_from_false has (false_from_ne_true has (λ t. mate.no_legal_move (passing_is_legal p (sym e ∙ t)))),
)

-- stalemate, where no move passes the test, is that there is no check
pub stalemate_law : (p : Board) (check : Bool) → length p.men ≡ 64 → list_any (legal_test p) all_moves ≡ false
    → check ≡ in_check p.men p.side → (not check ≡ true) ↔ IsStalemate p
stalemate_law p check long none e = (
  λ h. record { no_check = sym e ∙ not-true check h; no_legal_move = stuck p long none },
  λ stalemate. not_from_false check (e ∙ stalemate.no_check),
)

-- and there is none where a move passes
pub no_stalemate : (p : Board) (has : Bool) → has ≡ list_any (legal_test p) all_moves → has ≡ true → (not has ≡ true) ↔ IsStalemate p
no_stalemate p has e passes = (
  λ h. absurd (false≢true (sym (not-true has h) ∙ passes)),
  λ stalemate. absurd (stalemate.no_legal_move (passing_is_legal p (sym e ∙ passes))),
)
