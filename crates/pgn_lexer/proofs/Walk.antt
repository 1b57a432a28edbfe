-- The lexemes of a text from one place on: over white space, and over a lexeme.
use Rattle.std.proofs.Common.{◌≡◌, ℕ, zero, suc, ◌+◌, ◌-◌, ◌<◌, ◌≤◌, Bool, false, cond, List, [], ◌∷◌, length, get_or, take, drop, refl, sym, ap, ap₂, ◌∙◌, subst, arith, add-zero, true}
use Rattle.std.specs.Prelude.{map}
use Rattle.std.specs.List.{prefix_len}
use Rattle.std.proofs.lemmas.List.{get_or-drop, drop-drop, drop_all, drop_more, length-drop, take_rest, length-take-le}
use Rattle.std.proofs.lemmas.List.Sums.{prefix_len_stops}
use Rattle.pgn_lexer.proofs.Within.{of_both, reading_some}
use Rattle.cq_common.specs.Text.{is_white}
use Rattle.pgn_lexer.specs.Bytes.{ends_line}
use Rattle.pgn_lexer.specs.Readings.{reading}
use Rattle.pgn_lexer.specs.declared.token.Reading.{Reading}
use Rattle.pgn_lexer.specs.Lexemes.{Lexeme, moved, lexeme, lexemes, lexemes_from, lexemes_at, first_at}

-- the column at a place after a place
pub first_at-drop : (first : Bool) (bytes : List ℕ) (p n : ℕ) → first_at (first_at first bytes p) (drop p bytes) n ≡ first_at first bytes (p + n)
first_at-drop first bytes p zero = ap (first_at first bytes) (sym (add-zero p))
first_at-drop first bytes p (suc k) =
    let e : p + suc k ≡ suc (p + k) = omega arith in
    ap ends_line (get_or-drop p bytes k 0) ∙ ap (first_at first bytes) (sym e)

-- after the first byte the column depends on that byte
pub first_at-cons : (first : Bool) (b : ℕ) (bs : List ℕ) (n : ℕ) → first_at first (b ∷ bs) (suc n) ≡ first_at (ends_line b) bs n
first_at-cons first b bs zero = refl
first_at-cons first b bs (suc n) = refl

-- over the rest of the lexeme before
pub over_inside : (bs : List ℕ) (inside at : ℕ) (first : Bool) → lexemes_from bs inside at first ≡ lexemes_from (drop inside bs) 0 (at + inside) (first_at first bs inside)
unfolding lexemes_from
over_inside [] zero at first = refl
over_inside [] (suc inside) at first = refl
over_inside (b ∷ bs) zero at first = ap (λ p. lexemes_from (b ∷ bs) 0 p first) (sym (add-zero at))
over_inside (b ∷ bs) (suc inside) at first =
    let e : at + 1 + inside ≡ at + suc inside = omega arith in
    over_inside bs inside (at + 1) (ends_line b)
    ∙ ap₂ (λ p c. lexemes_from (drop inside bs) 0 p c) e (sym (first_at-cons first b bs inside))

-- over white space
pub over_white : (bs : List ℕ) (at : ℕ) (first : Bool)
    → lexemes_from bs 0 at first ≡ lexemes_from (drop (prefix_len is_white bs) bs) 0 (at + prefix_len is_white bs) (first_at first bs (prefix_len is_white bs))
unfolding lexemes_from
over_white [] at first = refl
over_white (b ∷ bs) at first =
    let n = prefix_len is_white bs in
    let Over : ℕ → Type 0 = λ m. lexemes_from (b ∷ bs) 0 at first ≡ lexemes_from (drop m (b ∷ bs)) 0 (at + m) (first_at first (b ∷ bs) m) in
    of_both Over (is_white b) (1 + n) 0
    (λ white.
    let e : at + 1 + n ≡ at + suc n = omega arith in
    let s : suc n ≡ 1 + n = omega arith in
    subst Over s
    (ap (λ t. cond t (lexemes_from bs 0 (at + 1) (ends_line b)) (lexeme at first b bs ∷ lexemes_from bs ((reading first b bs).len - 1) (at + 1) (ends_line b))) white
    ∙ over_white bs (at + 1) (ends_line b)
    ∙ ap₂ (λ p c. lexemes_from (drop n bs) 0 p c) e (sym (first_at-cons first b bs n))))
    (λ _. ap (λ p. lexemes_from (b ∷ bs) 0 p first) (sym (add-zero at)))

-- over a lexeme
pub over_lexeme : (b : ℕ) (bs : List ℕ) (at : ℕ) (first : Bool) → is_white b ≡ false → let len = (reading first b bs).len in
    lexemes_from (b ∷ bs) 0 at first ≡ lexeme at first b bs ∷ lexemes_from (drop len (b ∷ bs)) 0 (at + len) (first_at first (b ∷ bs) len)
unfolding lexemes_from
over_lexeme b bs at first dark =
    let some = reading_some first b bs in
    let before : ℕ = (reading first b bs).len - 1 in
    let e : suc before ≡ (reading first b bs).len = omega arith in
    ap (λ t. cond t (lexemes_from bs 0 (at + 1) (ends_line b)) (lexeme at first b bs ∷ lexemes_from bs before (at + 1) (ends_line b))) dark
    ∙ ap (λ ls. lexeme at first b bs ∷ ls) (over_inside (b ∷ bs) (suc before) at first ∙ ap (λ n. lexemes_from (drop n (b ∷ bs)) 0 (at + n) (first_at first (b ∷ bs) n)) e)

-- over one byte of white space
pub over_white_byte : (b : ℕ) (bs : List ℕ) (at : ℕ) (first : Bool) → is_white b ≡ true → lexemes_from (b ∷ bs) 0 at first ≡ lexemes_from bs 0 (at + 1) (ends_line b)
unfolding lexemes_from
over_white_byte b bs at first white =
    ap (λ t. cond t (lexemes_from bs 0 (at + 1) (ends_line b)) (lexeme at first b bs ∷ lexemes_from bs ((reading first b bs).len - 1) (at + 1) (ends_line b))) white

pub of_nothing : (at : ℕ) (first : Bool) → lexemes at first [] ≡ []
unfolding lexemes_from
of_nothing at first = refl

-- the lexemes of a text at another place
both_moved : (n : ℕ) (t : Bool) (x : Lexeme) (xs ys xs' ys' : List Lexeme) → xs' ≡ map (moved n) xs → ys' ≡ map (moved n) ys → cond t xs' (moved n x ∷ ys') ≡ map (moved n) (cond t xs (x ∷ ys))
both_moved n true x xs ys xs' ys' white dark = white
both_moved n false x xs ys xs' ys' white dark = ap (λ l. moved n x ∷ l) dark

pub all_moved : (n : ℕ) (bs : List ℕ) (inside at : ℕ) (first : Bool) → lexemes_from bs inside (at + n) first ≡ map (moved n) (lexemes_from bs inside at first)
unfolding lexemes_from
all_moved n [] inside at first = refl
all_moved n (b ∷ bs) (suc inside) at first =
    let e : at + n + 1 ≡ at + 1 + n = omega arith in
    ap (λ p. lexemes_from bs inside p (ends_line b)) e ∙ all_moved n bs inside (at + 1) (ends_line b)
all_moved n (b ∷ bs) zero at first =
    let e : at + n + 1 ≡ at + 1 + n = omega arith in
    let before : ℕ = (reading first b bs).len - 1 in
    both_moved n (is_white b) (lexeme at first b bs) (lexemes_from bs 0 (at + 1) (ends_line b)) (lexemes_from bs before (at + 1) (ends_line b))
    (lexemes_from bs 0 (at + n + 1) (ends_line b)) (lexemes_from bs before (at + n + 1) (ends_line b))
    (ap (λ p. lexemes_from bs 0 p (ends_line b)) e ∙ all_moved n bs 0 (at + 1) (ends_line b))
    (ap (λ p. lexemes_from bs before p (ends_line b)) e ∙ all_moved n bs before (at + 1) (ends_line b))

-- the same of the lexemes after a place
module _ (start : ℕ) (first : Bool) (bytes : List ℕ) where
  -- the lexemes of what is left after a place, n bytes on
  pub further : (p n : ℕ) → lexemes_from (drop n (drop p bytes)) 0 (start + p + n) (first_at (first_at first bytes p) (drop p bytes) n) ≡ lexemes_at start first bytes (p + n)
  further p n =
      let e : start + p + n ≡ start + (p + n) = omega arith in
      ap (λ l. lexemes_from l 0 (start + p + n) (first_at (first_at first bytes p) (drop p bytes) n)) (drop-drop n p bytes)
      ∙ ap₂ (λ a c. lexemes_from (drop (p + n) bytes) 0 a c) e (first_at-drop first bytes p n)

  pub at_white : (p : ℕ) → lexemes_at start first bytes p ≡ lexemes_at start first bytes (p + prefix_len is_white (drop p bytes))
  at_white p = over_white (drop p bytes) (start + p) (first_at first bytes p) ∙ further p (prefix_len is_white (drop p bytes))

  pub at_end : (p : ℕ) → length bytes ≤ p → lexemes_at start first bytes p ≡ []
  unfolding lexemes_from
  at_end p past = ap (λ l. lexemes_from l 0 (start + p) (first_at first bytes p)) (drop_all p bytes past)

  pub at_lexeme : (p : ℕ) → p < length bytes → is_white (get_or bytes p 0) ≡ false → let r = reading (first_at first bytes p) (get_or bytes p 0) (drop (p + 1) bytes) in
      lexemes_at start first bytes p ≡ (record { at = start + p; first = first_at first bytes p; text = take r.len (drop p bytes); kind = r.kind }) ∷ lexemes_at start first bytes (p + r.len)
  at_lexeme p within dark =
      let b : ℕ = get_or bytes p 0 in
      let rest = drop (p + 1) bytes in
      let col = first_at first bytes p in
      let r = reading col b rest in
      let cons : drop p bytes ≡ b ∷ rest = drop_more bytes p 0 within in
      ap (λ l. lexemes_from l 0 (start + p) col) cons
      ∙ over_lexeme b rest (start + p) col dark
      ∙ ap (λ l. (record { at = start + p; first = col; text = take r.len l; kind = r.kind }) ∷ lexemes_from (drop r.len l) 0 (start + p + r.len) (first_at col l r.len)) (sym cons)
      ∙ ap (λ ls. (record { at = start + p; first = col; text = take r.len (drop p bytes); kind = r.kind }) ∷ ls) (further p r.len)

-- the byte at the end of white space is not white space
pub dark_after_white : (bytes : List ℕ) (p : ℕ) → p + prefix_len is_white (drop p bytes) < length bytes → is_white (get_or bytes (p + prefix_len is_white (drop p bytes)) 0) ≡ false
dark_after_white bytes p within =
    let len = length-drop p bytes in
    ap is_white (sym (get_or-drop p bytes (prefix_len is_white (drop p bytes)) 0)) ∙ prefix_len_stops is_white (drop p bytes) 0 (omega arith)

-- the next lexeme, by what is found after the white space at a place
module _ (start : ℕ) (first : Bool) (bytes rest : List ℕ) (at white : ℕ) where
  here_next : (p : ℕ) → p < length bytes → is_white (get_or bytes p 0) ≡ false → (col : Bool) → col ≡ first_at first bytes p
      → (r : Reading) → r ≡ reading (first_at first bytes p) (get_or bytes p 0) (drop (p + 1) bytes) → rest ≡ drop p bytes → length (take r.len rest) ≡ r.len
      → lexemes_at start first bytes p ≡ (record { at = start + p; first = col; text = take r.len rest; kind = r.kind }) ∷ lexemes_at start first bytes (p + length (take r.len rest))
  here_next p within dark col col_is r reads rest_is text_len =
      at_lexeme start first bytes p within dark
      ∙ ap (λ s. (record { at = start + p; first = first_at first bytes p; text = take s.len (drop p bytes); kind = s.kind }) ∷ lexemes_at start first bytes (p + s.len)) (sym reads)
      ∙ ap₂ (λ c l. (record { at = start + p; first = c; text = take r.len l; kind = r.kind }) ∷ lexemes_at start first bytes (p + r.len)) (sym col_is) (sym rest_is)
      ∙ ap (λ n. (record { at = start + p; first = col; text = take r.len rest; kind = r.kind }) ∷ lexemes_at start first bytes (p + n)) (sym text_len)

  pub none_next : (front : List ℕ) → front ≡ drop at bytes → white ≡ prefix_len is_white front → at + white ≡ length bytes → lexemes_at start first bytes at ≡ []
  none_next front is skipped over =
      let here : white ≡ prefix_len is_white (drop at bytes) = skipped ∙ ap (prefix_len is_white) is in
      at_white start first bytes at ∙ at_end start first bytes (at + prefix_len is_white (drop at bytes)) (omega arith)

  pub some_next : (front : List ℕ) → front ≡ drop at bytes → white ≡ prefix_len is_white front → white ≤ length front → at ≤ length bytes → (at + white ≡ length bytes → ⊥)
      → rest ≡ drop (at + white) bytes → (col : Bool) → col ≡ first_at first bytes (at + white) → (r : Reading)
      → r ≡ reading col (get_or rest 0 0) (take (length rest - 1) (drop 1 rest)) → r.len ≤ length (take (length rest - 1) (drop 1 rest)) + 1
      → lexemes_at start first bytes at ≡ (record { at = start + (at + white); first = col; text = take r.len rest; kind = r.kind })
      ∷ lexemes_at start first bytes (at + white + length (take r.len rest))
  some_next front front_is skipped few inside more rest_is col col_is r r_is fits =
      let p : ℕ = at + white in
      let here : white ≡ prefix_len is_white (drop at bytes) = skipped ∙ ap (prefix_len is_white) front_is in
      let front_len : length front ≡ length bytes - at = ap length front_is ∙ length-drop at bytes in
      let rest_len : length rest ≡ length bytes - p = ap length rest_is ∙ length-drop p bytes in
      let within : p < length bytes = omega arith in
      let dark : is_white (get_or bytes p 0) ≡ false = subst (λ n. is_white (get_or bytes (at + n) 0) ≡ false) (sym here) (dark_after_white bytes at (omega arith)) in
      let byte : get_or rest 0 0 ≡ get_or bytes p 0 = ap (λ l. get_or l 0 0) rest_is ∙ get_or-drop p bytes 0 0 ∙ ap (λ n. get_or bytes n 0) (add-zero p) in
      let others : take (length rest - 1) (drop 1 rest) ≡ drop (p + 1) bytes = take_rest rest 1 ∙ ap (drop 1) rest_is ∙ drop-drop 1 p bytes in
      let reads : r ≡ reading (first_at first bytes p) (get_or bytes p 0) (drop (p + 1) bytes) = r_is ∙ ap₂ (λ b l. reading col b l) byte others
      ∙ ap (λ c. reading c (get_or bytes p 0) (drop (p + 1) bytes)) col_is in
      let others_len : length (take (length rest - 1) (drop 1 rest)) ≡ length bytes - (p + 1) = ap length others ∙ length-drop (p + 1) bytes in
      let text_len : length (take r.len rest) ≡ r.len = length-take-le r.len rest (omega arith) in
      let skips : lexemes_at start first bytes at ≡ lexemes_at start first bytes p = at_white start first bytes at ∙ ap (λ n. lexemes_at start first bytes (at + n)) (sym here) in
      skips ∙ here_next p within dark col col_is r reads rest_is text_len
