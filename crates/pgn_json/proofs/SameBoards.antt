-- Positions with the same text are the same.
use Rattle.std.proofs.Common.{◌≡◌, ℕ, ◌+◌, ◌%◌, ◌^◌, ◌<◌, ◌≤◌, not, true, false, List, [], ◌∷◌, ◌++◌, refl, ap, ap₂, ◌∙◌, sym, arith, append_assoc, get_or, drop, decimal}
use Rattle.std.proofs.lemmas.Bool.{ne_eqb}
use Rattle.std.proofs.lemmas.Fmt.{decimal_by_steps, decimal_injective}
use Rattle.std.proofs.lemmas.List.Folds.{list_all-append}
use Rattle.std.specs.List.{list_all}
use Rattle.std.specs.Prelude.{Result, Ok, Err}
use Rattle.cq_position.specs.Board.{Board, start_board}
use Rattle.cq_position.specs.Fen.{fen_meaning}
use Rattle.cq_position.specs.FenText.{fen_of, placement_text, side_text, castling_text, passant_text}
use Rattle.cq_position.specs.Position.{IsPosition}
use Rattle.cq_position.specs.declared.fen.FenFault.{FenFault}
use Rattle.cq_position.proofs.Joined.{is_not, right_true}
use Rattle.cq_position.proofs.RoundTrip.{reads_back}

-- the text before the number, and a position with another number
abbrev front : Board → List ℕ
front b = placement_text b.men ++ 32 ∷ (side_text b.side ++ 32 ∷ (castling_text b.rights ++ 32 ∷ (passant_text b.passant ++ 32 ∷ 48 ∷ [])))

abbrev numbered : Board → ℕ → Board
numbered b n = record b { number = n }

grouped : (a b c d n : List ℕ) → a ++ 32 ∷ (b ++ 32 ∷ (c ++ 32 ∷ (d ++ 32 ∷ 48 ∷ 32 ∷ n))) ≡ (a ++ 32 ∷ (b ++ 32 ∷ (c ++ 32 ∷ (d ++ 32 ∷ 48 ∷ [])))) ++ 32 ∷ n
grouped a b c d n =
    sym (append_assoc a (32 ∷ (b ++ 32 ∷ (c ++ 32 ∷ (d ++ 32 ∷ 48 ∷ [])))) (32 ∷ n)
    ∙ ap (λ l. a ++ 32 ∷ l) (append_assoc b (32 ∷ (c ++ 32 ∷ (d ++ 32 ∷ 48 ∷ []))) (32 ∷ n)
    ∙ ap (λ l. b ++ 32 ∷ l) (append_assoc c (32 ∷ (d ++ 32 ∷ 48 ∷ [])) (32 ∷ n)
    ∙ ap (λ l. c ++ 32 ∷ l) (append_assoc d (32 ∷ 48 ∷ []) (32 ∷ n)))))

parted : (b : Board) → fen_of b ≡ front b ++ 32 ∷ decimal b.number
unfolding fen_of
parted b = grouped (placement_text b.men) (side_text b.side) (castling_text b.rights) (passant_text b.passant) (decimal b.number)

has_space : (x rest : List ℕ) → list_all (is_not 32) (x ++ 32 ∷ rest) ≡ true → ⊥
has_space [] rest all = let e : false ≡ true = all in cc
has_space (c ∷ x) rest all = has_space x rest (right_true (is_not 32 c) _ all)

-- texts without a space, each after the last space
last_part : (x y d e : List ℕ) → list_all (is_not 32) d ≡ true → list_all (is_not 32) e ≡ true → x ++ 32 ∷ d ≡ y ++ 32 ∷ e → (x ≡ y) × (d ≡ e)
last_part [] [] d e i j same = (refl, ap (drop 1) same)
last_part [] (c ∷ y) d e i j same = absurd (has_space y e (sym (ap (list_all (is_not 32)) (ap (drop 1) same)) ∙ i))
last_part (c ∷ x) [] d e i j same = absurd (has_space x d (ap (list_all (is_not 32)) (ap (drop 1) same) ∙ j))
last_part (b ∷ x) (c ∷ y) d e i j same =
    let more = last_part x y d e i j (ap (drop 1) same) in
    (ap₂ (λ z (zs : List ℕ). z ∷ zs) (ap (λ l. get_or l 0 0) same) more.0, more.1)

no_space : (c : ℕ) → 48 ≤ c → is_not 32 c ≡ true
no_space c high = ap not (ne_eqb c 32 (λ e. omega (arith, high, e)))

spaceless : (n : ℕ) → n < 2 ^ 64 → list_all (is_not 32) (decimal n) ≡ true
spaceless = decimal_by_steps (λ n text. list_all (is_not 32) text ≡ true)
    (λ n low. rw (no_space (48 + n) (omega arith)) refl)
    (λ n text high is. rw (list_all-append (is_not 32) text ((48 + n % 10) ∷ []), is, no_space (48 + n % 10) (omega arith)) refl)

first_number : (b : Board) → IsPosition b → IsPosition (numbered b 1)
first_number b is = record {
  whole = is.whole;
  kings = is.kings;
  no_pawn_on_edge = is.no_pawn_on_edge;
  few_enough = is.few_enough;
  rights = is.rights;
  passed = is.passed;
  opponent_not_in_check = is.opponent_not_in_check;
  numbered = omega arith;
  fits = omega arith;
}

abbrev board_or : Result Board FenFault → Board
board_or (Ok b) = b
board_or (Err fault) = start_board

read_again : (b : Board) → IsPosition b → board_or (fen_meaning (front b ++ 32 ∷ decimal 1)) ≡ numbered b 1
read_again b is =
    ap (λ text. board_or (fen_meaning text)) (sym (parted (numbered b 1)))
    ∙ ap board_or (reads_back (numbered b 1) (first_number b is) (omega arith))

pub fen_same : (b c : Board) → IsPosition b → IsPosition c → fen_of b ≡ fen_of c → b ≡ c
fen_same b c is kept same =
    let number = spaceless b.number (omega (arith, is.fits)) in
    let other = spaceless c.number (omega (arith, kept.fits)) in
    let parts = last_part (front b) (front c) (decimal b.number) (decimal c.number) number other (sym (parted b) ∙ same ∙ parted c) in
    let first : numbered b 1 ≡ numbered c 1
    = sym (read_again b is) ∙ ap (λ text. board_or (fen_meaning (text ++ 32 ∷ decimal 1))) parts.0 ∙ read_again c kept in
    ap₂ (λ x n. numbered x n) first (decimal_injective b.number c.number (omega (arith, is.fits)) (omega (arith, kept.fits)) parts.1)
