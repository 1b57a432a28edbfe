-- The signs after a move are right about check and mate.
use Rattle.std.proofs.Common.{◌≡◌, ℕ, Bool, true, false, List, [], ◌∷◌, length, get_or, refl, sym, ap, subst, ◌∙◌, ◌<◌, arith}
use Rattle.std.specs.List.{Contains}
use Rattle.std.proofs.lemmas.Bool.{false≢true}
use Rattle.cq_position.specs.declared.moves.Move.{Move}
use Rattle.cq_position.specs.Board.{Board}
use Rattle.cq_position.specs.Attacks.{in_check}
use Rattle.cq_moves.specs.LegalMoves.{legal_list}
use Rattle.cq_moves.specs.Mate.{IsMate}
use Rattle.cq_moves.proofs.Order.{listed_is_legal, legal_is_listed}
use Rattle.cq_san.specs.Writing.{check_sign, sign_of}
use Rattle.cq_san.specs.Signs.{SignsSay}

-- mate is check with an empty list
mated : (p : Board) → length p.men ≡ 64 → in_check p.men p.side ≡ true → legal_list p ≡ [] → IsMate p
mated p long check none = record {
  check = check;
  no_legal_move = λ l. omega (arith, (subst (λ (ms : List Move). Contains ms l.0) none (legal_is_listed p l.0 long (l.1, l.2))).1);
}

not_mated : (p : Board) (m : Move) (ms : List Move) → legal_list p ≡ m ∷ ms → ¬ IsMate p
not_mated p m ms is mate =
    let legal = listed_is_legal p m (subst (λ (ns : List Move). Contains ns m) (sym is) (0, omega arith, refl)) in
    mate.no_legal_move (m, legal.0, legal.1)

-- no two signs are the same
one_byte : (a b : ℕ) → a ∷ [] ≡ b ∷ [] → a ≡ b
one_byte a b e = ap (λ (xs : List ℕ). get_or xs 0 0) e

some_byte : (a : ℕ) → a ∷ [] ≡ [] → ⊥
some_byte a e = let n : 1 ≡ 0 = ap (λ (xs : List ℕ). length xs) e in omega (arith, n)

apart : (a b : ℕ) → a < b → a ∷ [] ≡ b ∷ [] → ⊥
apart a b below e = omega (arith, below, one_byte a b e)

by_list : (p : Board) → length p.men ≡ 64 → (check : Bool) (moves : List Move) → in_check p.men p.side ≡ check → legal_list p ≡ moves
    → SignsSay p (check_sign check moves)
by_list p long false moves e f = record {
  mate = (λ h. absurd (some_byte 35 (sym h)), λ mate. absurd (false≢true (sym e ∙ mate.check)));
  check = (λ h. absurd (some_byte 43 (sym h)), λ h. absurd (false≢true (sym e ∙ h.0)));
  none = (λ h. e, λ h. refl);
}
by_list p long true [] e f = record {
  mate = (λ h. mated p long e f, λ mate. refl);
  check = (λ h. absurd (apart 35 43 (omega arith) h), λ h. absurd (h.1 (mated p long e f)));
  none = (λ h. absurd (some_byte 35 h), λ h. absurd (false≢true (sym h ∙ e)));
}
by_list p long true (m ∷ ms) e f = record {
  mate = (λ h. absurd (apart 35 43 (omega arith) (sym h)), λ mate. absurd (not_mated p m ms f mate));
  check = (λ h. (e, not_mated p m ms f), λ h. refl);
  none = (λ h. absurd (some_byte 43 h), λ h. absurd (false≢true (sym h ∙ e)));
}

pub signs_say : (p : Board) → length p.men ≡ 64 → SignsSay p (sign_of p)
signs_say p long = by_list p long (in_check p.men p.side) (legal_list p) refl refl
