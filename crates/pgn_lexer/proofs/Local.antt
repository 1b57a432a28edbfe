-- The lexemes of a part of a text, and their places in it.
use Rattle.std.proofs.Common.{◌≡◌, ℕ, zero, suc, ◌+◌, ◌-◌, ◌≤◌, ◌⊎◌, Bool, true, false, cond, List, [], ◌∷◌, length, take, drop, refl, sym, ap, ap₂, ◌∙◌, subst, ⊎_elim, arith, add-zero}
use Rattle.std.specs.Prelude.{◌&&◌, nat_le, nat_lt, filter, slice_range}
use Rattle.std.specs.List.{AllByRecursion}
use Rattle.std.proofs.lemmas.Bool.{cases_lt}
use Rattle.std.proofs.lemmas.Bool.Decides.{nat_tests}
use Rattle.std.proofs.lemmas.List.{length-take-le, take-take}
use Rattle.cq_common.specs.Text.{is_white}
use Rattle.pgn_lexer.specs.Bytes.{ends_line}
use Rattle.pgn_lexer.specs.Readings.{reading}
use Rattle.pgn_lexer.specs.Lexemes.{Lexeme, end, lexeme, lexemes, lexemes_from, first_at}
use Rattle.pgn_lexer.specs.Locality.{IsUncrossed, within}
use Rattle.pgn_lexer.proofs.Fronts.{reading_same}
use Rattle.pgn_lexer.proofs.Lists.{filter_all, filter_none, filter_never, filter-filter, all_of_filter}
use Rattle.pgn_lexer.proofs.Walk.{first_at-cons}
use Rattle.pgn_lexer.proofs.Within.{of_both, reading_within}

-- two choices by one test
both_of : {A B : Type 0} (P : A → B → Type 0) (t : Bool) (x y : A) (x' y' : B) → (t ≡ true → P x x') → (t ≡ false → P y y') → P (cond t x y) (cond t x' y')
both_of P true x y x' y' on_true on_false = on_true refl
both_of P false x y x' y' on_true on_false = on_false refl

-- the bytes of a lexeme are as many as its reading takes
pub text_len : (at : ℕ) (first : Bool) (b : ℕ) (bs : List ℕ) → length (lexeme at first b bs).text ≡ (reading first b bs).len
text_len at first b bs =
    let fits = reading_within first b bs in
    length-take-le (reading first b bs).len (b ∷ bs) (omega arith)

-- lexemes begin at the place of the first byte or after it
starts_after : (q : ℕ) (bs : List ℕ) (inside at : ℕ) (first : Bool) → q ≤ at → AllByRecursion (λ l. q ≤ l.at) (lexemes_from bs inside at first)
unfolding lexemes_from
starts_after q [] inside at first less = tt
starts_after q (b ∷ bs) (suc inside) at first less = starts_after q bs inside (at + 1) (ends_line b) (omega arith)
starts_after q (b ∷ bs) zero at first less =
    of_both (AllByRecursion (λ l. q ≤ l.at)) (is_white b) (lexemes_from bs 0 (at + 1) (ends_line b)) (lexeme at first b bs ∷ lexemes_from bs ((reading first b bs).len - 1) (at + 1) (ends_line b))
    (λ _. starts_after q bs 0 (at + 1) (ends_line b) (omega arith))
    (λ _. (less, starts_after q bs ((reading first b bs).len - 1) (at + 1) (ends_line b) (omega arith)))

-- a lexeme that doesn't cross a place after its first byte ends by it
fits_before : (at : ℕ) (first : Bool) (b : ℕ) (bs : List ℕ) (m : ℕ) → (end (lexeme at first b bs) ≤ at + suc m) ⊎ (at + suc m ≤ at) → (reading first b bs).len ≤ suc m
fits_before at first b bs m apart =
    let len = text_len at first b bs in
    ⊎_elim (λ ends. omega arith) (λ begins. absurd (omega arith)) apart

-- the lexemes before a place
take_part : (bs : List ℕ) (inside at : ℕ) (first : Bool) (m : ℕ) → inside ≤ m → IsUncrossed (at + m) (lexemes_from bs inside at first)
    → lexemes_from (take m bs) inside at first ≡ filter (λ l. nat_lt l.at (at + m)) (lexemes_from bs inside at first)
unfolding lexemes_from
take_part [] inside at first zero less apart = refl
take_part [] inside at first (suc m) less apart = refl
take_part (b ∷ bs) (suc inside) at first zero less apart = absurd (omega arith)
take_part (b ∷ bs) (suc inside) at first (suc m) less apart =
    let e : at + suc m ≡ at + 1 + m = omega arith in
    take_part bs inside (at + 1) (ends_line b) m (omega arith) (subst (λ p. IsUncrossed p (lexemes_from bs inside (at + 1) (ends_line b))) e apart)
    ∙ ap (λ p. filter (λ l. nat_lt l.at p) (lexemes_from bs inside (at + 1) (ends_line b))) (sym e)
take_part (b ∷ bs) zero at first zero less apart =
    sym (filter_none (λ l. nat_lt l.at (at + 0)) (λ l. at + 0 ≤ l.at) (λ l after. grind (arith, nat_tests)) (lexemes_from (b ∷ bs) 0 at first)
    (starts_after (at + 0) (b ∷ bs) 0 at first (omega arith)))
take_part (b ∷ bs) zero at first (suc m) less apart =
    let e : at + suc m ≡ at + 1 + m = omega arith in
    let r = reading first b bs in
    let q = reading first b (take m bs) in
    both_of (λ (ls ms : List Lexeme). IsUncrossed (at + suc m) ms → ls ≡ filter (λ l. nat_lt l.at (at + suc m)) ms) (is_white b)
    (lexemes_from (take m bs) 0 (at + 1) (ends_line b)) (lexeme at first b (take m bs) ∷ lexemes_from (take m bs) (q.len - 1) (at + 1) (ends_line b))
    (lexemes_from bs 0 (at + 1) (ends_line b)) (lexeme at first b bs ∷ lexemes_from bs (r.len - 1) (at + 1) (ends_line b))
    (λ _ open_.
    take_part bs 0 (at + 1) (ends_line b) m (omega arith) (subst (λ p. IsUncrossed p (lexemes_from bs 0 (at + 1) (ends_line b))) e open_)
    ∙ ap (λ p. filter (λ l. nat_lt l.at p) (lexemes_from bs 0 (at + 1) (ends_line b))) (sym e))
    (λ _ open_.
    let fits = fits_before at first b bs m open_.0 in
    let same : q ≡ r = reading_same m bs first b (omega arith) in
    let here : nat_lt at (at + suc m) ≡ true = grind (arith, nat_tests) in
    ap (λ s. (record { at = at; first = first; text = take s.len (b ∷ take m bs); kind = s.kind }) ∷ lexemes_from (take m bs) (s.len - 1) (at + 1) (ends_line b)) same
    ∙ ap₂ (λ t ls. (record { at = at; first = first; text = t; kind = r.kind }) ∷ ls)
    (take-take r.len (suc m) (b ∷ bs) fits)
    (take_part bs (r.len - 1) (at + 1) (ends_line b) m (omega arith) (subst (λ p. IsUncrossed p (lexemes_from bs (r.len - 1) (at + 1) (ends_line b))) e open_.1)
    ∙ ap (λ p. filter (λ l. nat_lt l.at p) (lexemes_from bs (r.len - 1) (at + 1) (ends_line b))) (sym e))
    ∙ sym (ap (λ t. cond t (lexeme at first b bs ∷ filter (λ l. nat_lt l.at (at + suc m)) (lexemes_from bs (r.len - 1) (at + 1) (ends_line b)))
    (filter (λ l. nat_lt l.at (at + suc m)) (lexemes_from bs (r.len - 1) (at + 1) (ends_line b)))) here))
    apart

-- the lexemes from a place on
drop_part : (bs : List ℕ) (inside at : ℕ) (first : Bool) (m : ℕ) → inside ≤ m → IsUncrossed (at + m) (lexemes_from bs inside at first)
    → lexemes_from (drop m bs) 0 (at + m) (first_at first bs m) ≡ filter (λ l. nat_le (at + m) l.at) (lexemes_from bs inside at first)
unfolding lexemes_from
drop_part [] inside at first zero less apart = refl
drop_part [] inside at first (suc m) less apart = refl
drop_part (b ∷ bs) (suc inside) at first zero less apart = absurd (omega arith)
drop_part (b ∷ bs) (suc inside) at first (suc m) less apart =
    let e : at + suc m ≡ at + 1 + m = omega arith in
    ap₂ (λ p c. lexemes_from (drop m bs) 0 p c) e (first_at-cons first b bs m)
    ∙ drop_part bs inside (at + 1) (ends_line b) m (omega arith) (subst (λ p. IsUncrossed p (lexemes_from bs inside (at + 1) (ends_line b))) e apart)
    ∙ ap (λ p. filter (λ l. nat_le p l.at) (lexemes_from bs inside (at + 1) (ends_line b))) (sym e)
drop_part (b ∷ bs) zero at first zero less apart =
    ap (λ p. lexemes_from (b ∷ bs) 0 p first) (add-zero at)
    ∙ sym (filter_all (λ l. nat_le (at + 0) l.at) (λ l. at + 0 ≤ l.at) (λ l after. grind (arith, nat_tests)) (lexemes_from (b ∷ bs) 0 at first)
    (starts_after (at + 0) (b ∷ bs) 0 at first (omega arith)))
drop_part (b ∷ bs) zero at first (suc m) less apart =
    let e : at + suc m ≡ at + 1 + m = omega arith in
    let r = reading first b bs in
    ap₂ (λ p c. lexemes_from (drop m bs) 0 p c) e (first_at-cons first b bs m)
    ∙ of_both (λ (ms : List Lexeme). IsUncrossed (at + suc m) ms → lexemes_from (drop m bs) 0 (at + 1 + m) (first_at (ends_line b) bs m) ≡ filter (λ l. nat_le (at + suc m) l.at) ms) (is_white b)
    (lexemes_from bs 0 (at + 1) (ends_line b)) (lexeme at first b bs ∷ lexemes_from bs (r.len - 1) (at + 1) (ends_line b))
    (λ _ open_.
    drop_part bs 0 (at + 1) (ends_line b) m (omega arith) (subst (λ p. IsUncrossed p (lexemes_from bs 0 (at + 1) (ends_line b))) e open_)
    ∙ ap (λ p. filter (λ l. nat_le p l.at) (lexemes_from bs 0 (at + 1) (ends_line b))) (sym e))
    (λ _ open_.
    let fits = fits_before at first b bs m open_.0 in
    let passed : nat_le (at + suc m) at ≡ false = grind (arith, nat_tests) in
    drop_part bs (r.len - 1) (at + 1) (ends_line b) m (omega arith) (subst (λ p. IsUncrossed p (lexemes_from bs (r.len - 1) (at + 1) (ends_line b))) e open_.1)
    ∙ ap (λ p. filter (λ l. nat_le p l.at) (lexemes_from bs (r.len - 1) (at + 1) (ends_line b))) (sym e)
    ∙ sym (ap (λ t. cond t (lexeme at first b bs ∷ filter (λ l. nat_le (at + suc m) l.at) (lexemes_from bs (r.len - 1) (at + 1) (ends_line b)))
    (filter (λ l. nat_le (at + suc m) l.at) (lexemes_from bs (r.len - 1) (at + 1) (ends_line b)))) passed))
    apart

-- the lexemes between two places
pub local : (start : ℕ) (first : Bool) (bytes : List ℕ) (from to : ℕ) → IsUncrossed (start + from) (lexemes start first bytes) → IsUncrossed (start + to) (lexemes start first bytes)
    → lexemes (start + from) (first_at first bytes from) (slice_range bytes from to) ≡ within (start + from) (start + to) (lexemes start first bytes)
unfolding lexemes_from
local start first bytes from to from_open to_open = ⊎_elim
    (λ back.
    let none : to - from ≡ 0 = omega arith in
    ap (λ n. lexemes (start + from) (first_at first bytes from) (take n (drop from bytes))) none
    ∙ sym (filter_never (λ l. nat_le (start + from) l.at && nat_lt l.at (start + to)) (λ l. grind (arith, nat_tests)) (lexemes start first bytes)))
    (λ on.
    let all = lexemes start first bytes in
    let e : start + from + (to - from) ≡ start + to = omega arith in
    let later = drop_part bytes 0 start first from (omega arith) from_open in
    let apart : IsUncrossed (start + from + (to - from)) (lexemes (start + from) (first_at first bytes from) (drop from bytes)) =
    subst (λ ls. IsUncrossed (start + from + (to - from)) ls) (sym later)
    (subst (λ p. IsUncrossed p (filter (λ l. nat_le (start + from) l.at) all)) (sym e)
    (all_of_filter (λ l. (end l ≤ start + to) ⊎ (start + to ≤ l.at)) (λ l. nat_le (start + from) l.at) all to_open)) in
    take_part (drop from bytes) 0 (start + from) (first_at first bytes from) (to - from) (omega arith) apart
    ∙ ap₂ (λ p ls. filter (λ l. nat_lt l.at p) ls) e later
    ∙ filter-filter (λ l. nat_lt l.at (start + to)) (λ l. nat_le (start + from) l.at) all)
    (cases_lt to from)
