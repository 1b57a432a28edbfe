-- Pages that grow by words.
use Rattle.std.proofs.Common.{◌≡◌, ℕ, ◌+◌, ◌-◌, ◌<◌, ◌≤◌, Bool, true, false, cond, List, [], ◌∷◌, ◌++◌, length, refl, sym, ap, ◌∙◌, arith, append_assoc, append-nil, length-append, eqb-true}
use Rattle.std.specs.Prelude.{◌==◌, nat_le, slice_set, codes}
use Rattle.std.proofs.lemmas.Bool.{leb-true, leb-false}
use Rattle.std.proofs.lemmas.List.Sums.{fold-append}
use Rattle.std.proofs.Math.Seq.{set-append_seam}
use Rattle.pgn_export.specs.Internal.Column.{gap, next_column}
use Rattle.pgn_export.specs.Lines.{lines}
use Rattle.pgn_export.specs.Internal.Page.{Page, after_lines, with_word, with_words, with_longer_word}
use Rattle.pgn_export.specs.Words.{with_suffix, with_prefix}
use Rattle.pgn_export.proofs.Filled.{following, filled_following}

abbrev page_of : List ℕ → ℕ → ℕ → Page
page_of text column gap = record { text = text; column = column; gap = gap }

same_page : (s t : List ℕ) (m n gap : ℕ) → s ≡ t → m ≡ n → page_of s m gap ≡ page_of t n gap
same_page s t m n gap e f = cc

-- a word of two parts: where the first has no room in its line, or both have, or the second brings the word to a new line
module _ (text w more : List ℕ) (column : ℕ) where
  abbrev place : ℕ
  place = length text

  abbrev whole : ℕ
  whole = length (w ++ more)

  abbrev begun : Bool → List ℕ
  begun fits = text ++ (cond fits 32 10 ∷ w)

  abbrev before : Bool → ℕ
  before fits = cond fits (column + 1 + length w) (length w)

  moved : (b : ℕ) → slice_set ((text ++ (b ∷ w)) ++ more) place 10 ≡ text ++ (10 ∷ (w ++ more))
  moved b = ap (λ l. slice_set l place 10) (append_assoc text (b ∷ w) more) ∙ set-append_seam text b (w ++ more) 10

  rest_len : (b : ℕ) → length ((text ++ (b ∷ w)) ++ more) - place - 1 ≡ whole
  rest_len b =
      let e = ap length (append_assoc text (b ∷ w) more) in
      let f = length-append text (b ∷ (w ++ more)) in
      omega (arith, e, f)

  two_parts : (first second both : Bool) → nat_le (column + 1 + length w) 79 ≡ first → nat_le (before first + length more) 79 ≡ second → nat_le (column + 1 + whole) 79 ≡ both
      → cond second (page_of (begun first ++ more) (before first + length more) place)
      (page_of (slice_set (begun first ++ more) place 10) (length (begun first ++ more) - place - 1) place)
      ≡ page_of (text ++ (cond both 32 10 ∷ (w ++ more))) (cond both (column + 1 + whole) whole) place
  two_parts true true true a b c =
      same_page _ _ _ _ place (append_assoc text (32 ∷ w) more) (let g = length-append w more in omega (arith, g))
  two_parts true true false a b c =
      absurd (let g = length-append w more in let x = leb-true _ _ b in let y = leb-false _ _ c in omega (arith, g, x, y))
  two_parts true false true a b c =
      absurd (let g = length-append w more in let x = leb-false _ _ b in let y = leb-true _ _ c in omega (arith, g, x, y))
  two_parts true false false a b c = same_page _ _ _ _ place (moved 32) (rest_len 32)
  two_parts false second true a b c =
      absurd (let g = length-append w more in let x = leb-false _ _ a in let y = leb-true _ _ c in omega (arith, g, x, y))
  two_parts false true false a b c =
      same_page _ _ _ _ place (append_assoc text (10 ∷ w) more) (let g = length-append w more in omega (arith, g))
  two_parts false false false a b c = same_page _ _ _ _ place (moved 10) (rest_len 10)

pub longer_word : (p : Page) (w more : List ℕ) → with_longer_word (with_word p w) more ≡ with_word p (w ++ more)
unfolding with_word with_longer_word
longer_word p w more = two_parts p.text w more p.column _ _ _ refl refl refl

-- the last word of some becomes longer
pub last_longer : (mark : List ℕ) (p : Page) (w : List ℕ) (ws : List (List ℕ)) → with_longer_word (with_words p (w ∷ ws)) mark ≡ with_words p (with_suffix mark (w ∷ ws))
last_longer mark p w [] = longer_word p w mark
last_longer mark p w (v ∷ vs) = last_longer mark (with_word p w) v vs

-- a comment, written word by word
pub comment_written : (old mid words new : Page) (rest ws : List (List ℕ)) (open_ w shut : List ℕ) → ws ≡ w ∷ rest → mid ≡ with_word old (open_ ++ (w ++ []))
    → words ≡ with_words mid rest → new ≡ with_longer_word words shut → new ≡ with_words old (with_suffix shut (with_prefix open_ ws))
comment_written old mid words new rest ws open_ w shut is one more last =
    last
    ∙ ap (λ p. with_longer_word p shut) (more ∙ ap (λ p. with_words p rest) (one ∙ ap (λ x. with_word old (open_ ++ x)) (append-nil w)))
    ∙ last_longer shut old (open_ ++ w) rest
    ∙ ap (λ l. with_words old (with_suffix shut (with_prefix open_ l))) (sym is)

-- the text with the last LF
written : (p : Page) (ws : List (List ℕ)) → (with_words p ws).text ++ 10 ∷ [] ≡ p.text ++ following p.column ws
unfolding with_word following
written p [] = refl
written p (w ∷ ws) = written (with_word p w) ws ∙ append_assoc p.text (gap p.column w ∷ w) (following (next_column p.column w) ws)

-- after complete lines words are in lines, after an empty one
after_empty : (ws : List (List ℕ)) → following 79 ws ≡ 10 ∷ lines ws
unfolding following
after_empty [] = refl
after_empty (w ∷ ws) = no_room (nat_le (79 + 1 + length w) 79) refl
  where
    no_room : (fits : Bool) → nat_le (79 + 1 + length w) 79 ≡ fits
        → (cond fits 32 10 ∷ (w ++ following (cond fits (79 + 1 + length w) (length w)) ws)) ≡ 10 ∷ lines (w ∷ ws)
    no_room true e = absurd (let x = leb-true _ _ e in omega (arith, x))
    no_room false e = ap (λ l. 10 ∷ l) (sym (filled_following w ws))

pub lines_written : (before : List ℕ) (ws : List (List ℕ)) (p new : Page) → p ≡ with_words (after_lines before) ws → new.text ≡ p.text ++ codes "\n\n"
    → new.text ≡ before ++ codes "\n" ++ lines ws ++ codes "\n"
lines_written before ws p new is end =
    end
    ∙ sym (append_assoc p.text (10 ∷ []) (10 ∷ []))
    ∙ ap (λ q. (q.text ++ 10 ∷ []) ++ 10 ∷ []) is
    ∙ ap (λ l. l ++ 10 ∷ []) (written (after_lines before) ws ∙ ap (λ l. before ++ l) (after_empty ws) ∙ sym (append_assoc before (10 ∷ []) (lines ws)))

-- a word of two parts, and of three
pub second_part : (p first new : Page) (a b : List ℕ) → first ≡ with_word p a → new ≡ with_longer_word first b → new ≡ with_word p (a ++ b)
second_part p first new a b e f = f ∙ ap (λ q. with_longer_word q b) e ∙ longer_word p a b

pub no_first_part : (p new : Page) (a b : List ℕ) → (length a == 0) ≡ true → new ≡ with_word p b → new ≡ with_word p (a ++ b)
no_first_part p new [] b none e = e
no_first_part p new (x ∷ xs) b none e = absurd (omega (arith, eqb-true (length (x ∷ xs)) 0 none))

pub third_part : (p first new : Page) (a b c : List ℕ) → first ≡ with_word p (a ++ b) → new ≡ with_longer_word first c
    → new ≡ with_word p (a ++ (b ++ c))
third_part p first new a b c e f =
    f ∙ ap (λ q. with_longer_word q c) e ∙ longer_word p (a ++ b) c ∙ ap (with_word p) (append_assoc a b c)

pub no_third_part : (p new : Page) (a b c : List ℕ) → (length c == 0) ≡ true → new ≡ with_word p (a ++ b)
    → new ≡ with_word p (a ++ (b ++ c))
no_third_part p new a b [] none e = e ∙ ap (λ l. with_word p (a ++ l)) (sym (append-nil b))
no_third_part p new a b (x ∷ xs) none e = absurd (omega (arith, eqb-true (length (x ∷ xs)) 0 none))
