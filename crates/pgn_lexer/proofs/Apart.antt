-- The lexemes of a text are in order, and don't overlap.
use Rattle.std.proofs.Common.{◌≡◌, ℕ, zero, suc, ◌+◌, ◌-◌, ◌<◌, ◌≤◌, ◌⊎◌, Bool, List, [], ◌∷◌, length, sym, ap, ◌∙◌, inl, inr, arith}
use Rattle.std.specs.List.{AllByRecursion}
use Rattle.cq_common.specs.Text.{is_white}
use Rattle.pgn_lexer.specs.Bytes.{ends_line}
use Rattle.pgn_lexer.specs.Readings.{reading}
use Rattle.pgn_lexer.specs.Lexemes.{Lexeme, end, lexeme, lexemes, lexemes_from, first_at}
use Rattle.pgn_lexer.specs.Locality.{IsUncrossed, AreLexemesInOrder, StandsIn}
use Rattle.pgn_lexer.proofs.Lists.{map_all, both_all}
use Rattle.pgn_lexer.proofs.Local.{text_len}
use Rattle.pgn_lexer.proofs.Walk.{first_at-cons}
use Rattle.pgn_lexer.proofs.Within.{of_both, reading_some, reading_within}

-- each begins where the one before ends, or after that
pub in_order : (bs : List ℕ) (inside at : ℕ) (first : Bool) (q : ℕ) → q ≤ at + inside → AreLexemesInOrder q (lexemes_from bs inside at first)
unfolding lexemes_from
in_order [] inside at first q less = tt
in_order (b ∷ bs) (suc inside) at first q less = in_order bs inside (at + 1) (ends_line b) q (omega arith)
in_order (b ∷ bs) zero at first q less =
    let r = reading first b bs in
    of_both (AreLexemesInOrder q) (is_white b) (lexemes_from bs 0 (at + 1) (ends_line b)) (lexeme at first b bs ∷ lexemes_from bs (r.len - 1) (at + 1) (ends_line b))
    (λ _. in_order bs 0 (at + 1) (ends_line b) q (omega arith))
    (λ _.
    let len = text_len at first b bs in
    let some = reading_some first b bs in
    (omega arith, omega arith, in_order bs (r.len - 1) (at + 1) (ends_line b) (end (lexeme at first b bs)) (omega arith)))

-- lexemes in order begin after what they begin after, and so cross nothing before
all_after : (q p : ℕ) (ls : List Lexeme) → AreLexemesInOrder q ls → p ≤ q → AllByRecursion (λ l. p ≤ l.at) ls
all_after q p [] order less = tt
all_after q p (l ∷ ls) order less =
    let here = order.0 in
    (omega arith, all_after (end l) p ls order.2 (omega arith))

none_crosses : (p : ℕ) (ls : List Lexeme) → AllByRecursion (λ l. p ≤ l.at) ls → IsUncrossed p ls
none_crosses p ls begin_after = map_all (λ l. p ≤ l.at) (λ l. (end l ≤ p) ⊎ (p ≤ l.at)) (λ l after. inr after) ls begin_after

-- so none crosses an end of another
ends_uncrossed : (q : ℕ) (ls : List Lexeme) → AreLexemesInOrder q ls → AllByRecursion (λ l. IsUncrossed l.at ls × IsUncrossed (end l) ls) ls
ends_uncrossed q [] order = tt
ends_uncrossed q (l ∷ ls) order =
    let begin_after = all_after (end l) (end l) ls order.2 (omega arith) in (
      ((inr (omega arith), none_crosses l.at ls (all_after (end l) l.at ls order.2 (omega arith))), (inl (omega arith), none_crosses (end l) ls begin_after)),
      map_all (λ m. (IsUncrossed m.at ls × IsUncrossed (end m) ls) × (end l ≤ m.at)) (λ m. IsUncrossed m.at (l ∷ ls) × IsUncrossed (end m) (l ∷ ls))
          (λ m known. ((inl known.1, known.0.0), (inl (let after = known.1 in omega arith), known.0.1))) ls
          (both_all (λ m. IsUncrossed m.at ls × IsUncrossed (end m) ls) (λ m. end l ≤ m.at) ls (ends_uncrossed (end l) ls order.2) begin_after),
    )

-- the place of a lexeme in a text, counted from its first byte
record Placed (at : ℕ) (first : Bool) (bs : List ℕ) (l : Lexeme) : Type 0 where
  after : at ≤ l.at
  some : 0 < length l.text
  before : end l ≤ at + length bs
  column : l.first ≡ first_at first bs (l.at - at)

one_on : (at : ℕ) (first : Bool) (b : ℕ) (bs : List ℕ) (l : Lexeme) → Placed (at + 1) (ends_line b) bs l → Placed at first (b ∷ bs) l
one_on at first b bs l p =
    let after = p.after in
    let before = p.before in
    let e : suc (l.at - (at + 1)) ≡ l.at - at = omega arith in
    record {
      after = omega arith;
      some = p.some;
      before = omega arith;
      column = p.column ∙ sym (first_at-cons first b bs (l.at - (at + 1))) ∙ ap (first_at first (b ∷ bs)) e;
    }

all_placed : (bs : List ℕ) (inside at : ℕ) (first : Bool) → AllByRecursion (Placed at first bs) (lexemes_from bs inside at first)
unfolding lexemes_from
all_placed [] inside at first = tt
all_placed (b ∷ bs) (suc inside) at first =
    map_all (Placed (at + 1) (ends_line b) bs) (Placed at first (b ∷ bs)) (one_on at first b bs) (lexemes_from bs inside (at + 1) (ends_line b)) (all_placed bs inside (at + 1) (ends_line b))
all_placed (b ∷ bs) zero at first =
    let r = reading first b bs in
    of_both (AllByRecursion (Placed at first (b ∷ bs))) (is_white b) (lexemes_from bs 0 (at + 1) (ends_line b)) (lexeme at first b bs ∷ lexemes_from bs (r.len - 1) (at + 1) (ends_line b))
    (λ _. map_all (Placed (at + 1) (ends_line b) bs) (Placed at first (b ∷ bs)) (one_on at first b bs) (lexemes_from bs 0 (at + 1) (ends_line b)) (all_placed bs 0 (at + 1) (ends_line b)))
    (λ _.
    let len = text_len at first b bs in
    let some = reading_some first b bs in
    let fits = reading_within first b bs in
    let zero_on : 0 ≡ at - at = omega arith in (
      record { after = omega arith; some = omega arith; before = omega arith; column = ap (first_at first (b ∷ bs)) zero_on },
      map_all (Placed (at + 1) (ends_line b) bs) (Placed at first (b ∷ bs)) (one_on at first b bs)
          (lexemes_from bs (r.len - 1) (at + 1) (ends_line b)) (all_placed bs (r.len - 1) (at + 1) (ends_line b)),
    ))

-- each lexeme of a text is in its place
pub stand_apart : (start : ℕ) (first : Bool) (bytes : List ℕ) → AllByRecursion (StandsIn start first bytes) (lexemes start first bytes)
stand_apart start first bytes =
    let all = lexemes start first bytes in
    map_all (λ l. (IsUncrossed l.at all × IsUncrossed (end l) all) × Placed start first bytes l) (StandsIn start first bytes)
    (λ l known. record {
      begin_uncrossed = known.0.0;
      end_uncrossed = known.0.1;
      from_start = known.1.after;
      some = known.1.some;
      to_end = known.1.before;
      column = known.1.column;
    }) all
    (both_all (λ l. IsUncrossed l.at all × IsUncrossed (end l) all) (Placed start first bytes) all
    (ends_uncrossed start all (in_order bytes 0 start first start (omega arith))) (all_placed bytes 0 start first))
