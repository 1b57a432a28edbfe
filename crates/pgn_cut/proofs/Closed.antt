-- The closed games of a front stay, whatever follows it.
use Rattle.std.proofs.Common.{◌≡◌, ℕ, suc, ◌+◌, ◌<◌, ◌≤◌, Bool, true, false, cond, List, [], ◌∷◌, ◌++◌, length, get_or, take, drop, refl, sym, ap, ap₂, ◌∙◌, subst, ⊎_elim, arith, true≢false, add-zero, eqb-true}
use Rattle.std.specs.Prelude.{◌==◌, ◌&&◌, ◌||◌, not, nat_eq, codes, if◌then◌else◌}
use Rattle.std.specs.List.{list_all, common_prefix_len, AllByRecursion, starts_with}
use Rattle.std.proofs.lemmas.Bool.{cases_lt, cases_Bool, or_from, and_parts, false_from_ne_true}
use Rattle.std.specs.Str.{bytes_eq}
use Rattle.std.proofs.lemmas.Slice.Eq.{bytes_eq-Decides}
use Rattle.pgn_cut.proofs.Joins.{of_both, text_within}
use Rattle.std.proofs.lemmas.Bool.Decides.{nat_tests}
use Rattle.std.proofs.lemmas.List.{append_assoc, length-append, length-take-le, take_all, drop_all, get_or_push, drop-append-le, length-drop, append-nil}
use Rattle.pgn_lexer.specs.Grammar.{IsLexeme, IsLongest}
use Rattle.pgn_lexer.specs.Lexemes.{Lexeme, end, lexeme, lexemes, lexemes_from, first_at}
use Rattle.pgn_lexer.specs.Locality.{IsUnsettled, is_left_open, Settles, Grows}
use Rattle.pgn_lexer.specs.Bytes.{continues_symbol}
use Rattle.cq_common.specs.Text.{is_white}
use Rattle.pgn_lexer.specs.Readings.{reading, symbol, single}
use Rattle.pgn_lexer.specs.declared.token.LexemeKind.{LexemeKind}
use Rattle.pgn_lexer.specs.declared.token.LexemeKind.TheVariants.{EscapeLine, Token}
use Rattle.pgn_lexer.specs.declared.token.TokenKind.TheVariants.{Open, Close, Text, Symbol, Period, Star, LeftParen, RightParen, Nag, Null, Comment, LineComment, BadByte, UnclosedComment, UnclosedText}
use Rattle.pgn_cut.specs.Cut.{is_result, marks, is_marker, depth, opens, has_movetext, is_passed_over, ends_before, ends_after, span_to, cut_from, cut, same_span, closed, text_start}
use Rattle.pgn_cut.specs.Spans.{FinishesAt}
use Rattle.pgn_cut.specs.declared.span.Span.{Span}

-- The games that some lexemes close, and the lexemes of the game that is open after them. `game` has the lexemes before
-- them of the open game.
closed_by : (game ls : List Lexeme) → List Span
closed_by game [] = []
closed_by game (l ∷ ls) =
    if ends_before game l then span_to l.at game ++ closed_by (l ∷ []) ls
    else (if ends_after game l then span_to (end l) (game ++ l ∷ []) ++ closed_by [] ls
    else closed_by (game ++ l ∷ []) ls)

open_by : (game ls : List Lexeme) → List Lexeme
open_by game [] = game
open_by game (l ∷ ls) =
    if ends_before game l then open_by (l ∷ []) ls
    else (if ends_after game l then open_by [] ls
    else open_by (game ++ l ∷ []) ls)

-- a choice in each of the parts
choice_splits : (place : ℕ) (rest : List Lexeme) (t : Bool) (a b closed_a closed_b : List Span) (open_a open_b : List Lexeme)
    → a ≡ closed_a ++ cut_from place open_a rest → b ≡ closed_b ++ cut_from place open_b rest
    → cond t a b ≡ cond t closed_a closed_b ++ cut_from place (cond t open_a open_b) rest
choice_splits place rest true a b ca cb oa ob is_a is_b = is_a
choice_splits place rest false a b ca cb oa ob is_a is_b = is_b

-- a cut continues after the games that its first lexemes close
cut_splits : (place : ℕ) (game ls rest : List Lexeme) → cut_from place game (ls ++ rest) ≡ closed_by game ls ++ cut_from place (open_by game ls) rest
unfolding cut_from closed_by open_by
cut_splits place game [] rest = refl
cut_splits place game (l ∷ ls) rest =
    choice_splits place rest (ends_before game l) _ _ (span_to l.at game ++ closed_by (l ∷ []) ls) _ (open_by (l ∷ []) ls) _
    (ap (λ s. span_to l.at game ++ s) (cut_splits place (l ∷ []) ls rest) ∙ sym (append_assoc (span_to l.at game) (closed_by (l ∷ []) ls) _))
    (choice_splits place rest (ends_after game l) _ _ (span_to (end l) (game ++ l ∷ []) ++ closed_by [] ls) (closed_by (game ++ l ∷ []) ls)
    (open_by [] ls) (open_by (game ++ l ∷ []) ls)
    (ap (λ s. span_to (end l) (game ++ l ∷ []) ++ s) (cut_splits place [] ls rest) ∙ sym (append_assoc (span_to (end l) (game ++ l ∷ [])) (closed_by [] ls) _))
    (cut_splits place (game ++ l ∷ []) ls rest))

-- spans of which each list has at most one, that end elsewhere, have no common front
apart : (place : ℕ) (xs ys : List Span) → FinishesAt place xs → FinishesAt (place + 1) ys → common_prefix_len same_span xs ys ≡ 0
apart place [] ys ends later = refl
apart place (x ∷ []) [] ends later = refl
apart place (x ∷ []) (y ∷ []) ends later =
    let other : same_span x y ≡ false = grind (arith, nat_tests, ends, later) in
    ap (λ t. cond t (1 + common_prefix_len same_span [] []) 0) other
apart place (x ∷ []) (y ∷ z ∷ ys) ends later = absurd later
apart place (x ∷ w ∷ xs) ys ends later = absurd ends

same_flag : (b : Bool) → (if b then b else not b) ≡ true
same_flag true = refl
same_flag false = refl

same_self : (s : Span) → same_span s s ≡ true
same_self s = let flag = same_flag s.first in grind (arith, nat_tests, flag)

-- the common front of two lists that begin with the same spans
common_parts : (front xs ys : List Span) → take (common_prefix_len same_span (front ++ xs) (front ++ ys)) (front ++ xs) ≡ front ++ take (common_prefix_len same_span xs ys) xs
common_parts [] xs ys = refl
common_parts (s ∷ ss) xs ys =
    let n = common_prefix_len same_span (ss ++ xs) (ss ++ ys) in
    let one : 1 + n ≡ suc n = omega arith in
    ap (λ t. take (cond t (1 + n) 0) (s ∷ ss ++ xs)) (same_self s) ∙ ap (λ k. take k (s ∷ ss ++ xs)) one ∙ ap (λ l. s ∷ l) (common_parts ss xs ys)

take_none : {A : Type 0} (xs : List A) → take 0 xs ≡ []
take_none [] = refl
take_none (x ∷ xs) = refl

common_front : (front xs ys : List Span) → common_prefix_len same_span xs ys ≡ 0 → take (common_prefix_len same_span (front ++ xs) (front ++ ys)) (front ++ xs) ≡ front
common_front front xs ys none =
    common_parts front xs ys ∙ ap (λ n. front ++ take n xs) none ∙ ap (λ l. front ++ l) (take_none xs) ∙ append-nil front

-- the last game ends at the archive's end
span_ends : (place : ℕ) (game : List Lexeme) → FinishesAt place (span_to place game)
span_ends place [] = tt
span_ends place (l ∷ ls) = refl

pub last_ends : (place : ℕ) (game : List Lexeme) → FinishesAt place (cut_from place game [])
unfolding cut_from
last_ends place game = of_both (FinishesAt place) (list_all (λ l. is_passed_over l.kind) game) [] (span_to place game) tt (span_ends place game)

first_of_span : (place : ℕ) (game : List Lexeme) → FinishesAt place (span_to place game ++ [])
first_of_span place [] = tt
first_of_span place (l ∷ ls) = refl

-- a lexeme that neither ends the game before it nor marks an end goes to the game
pub goes_in : (place : ℕ) (game : List Lexeme) (l : Lexeme) (ls : List Lexeme) → opens l.kind ≡ false → is_marker l ≡ false → cut_from place game (l ∷ ls) ≡ cut_from place (game ++ l ∷ []) ls
unfolding cut_from
goes_in place game l ls no_open no_marker =
    let before : ends_before game l ≡ false = ap (λ t. t && l.first && has_movetext game) no_open in
    let no_end : ends_after game l ≡ false = ap (λ t. t && depth game == 0) no_marker in
    ap (λ t. cond t (span_to l.at game ++ cut_from place (l ∷ []) ls) (cond (ends_after game l) (span_to (end l) (game ++ l ∷ []) ++ cut_from place [] ls) (cut_from place (game ++ l ∷ []) ls))) before
    ∙ ap (λ t. cond t (span_to (end l) (game ++ l ∷ []) ++ cut_from place [] ls) (cut_from place (game ++ l ∷ []) ls)) no_end

-- the letter x after all as a lexeme
x_after : ℕ → Bool → Lexeme
x_after at first = record { at = at; first = first; text = 120 ∷ []; kind = Token Symbol }

x_alone : (at : ℕ) (first : Bool) → lexemes at first (120 ∷ []) ≡ x_after at first ∷ []
unfolding lexemes_from reading symbol x_after
x_alone at first = refl

-- a game before the letter x ends one byte later
x_ends : (place at : ℕ) (first : Bool) (game : List Lexeme) → FinishesAt place (cut_from place game (lexemes at first (120 ∷ [])))
unfolding x_after
x_ends place at first game =
    subst (FinishesAt place) (sym (ap (cut_from place game) (x_alone at first) ∙ goes_in place game (x_after at first) [] refl refl)) (last_ends place (game ++ x_after at first ∷ []))

-- a text that ends with x is no result
ends_with_x : (xs ys : List ℕ) (n : ℕ) → length ys ≡ n + 1 → xs ++ 120 ∷ [] ≡ ys → get_or ys n 0 ≡ 120
ends_with_x xs ys n size same =
    let sizes : length xs + 1 ≡ length ys = sym (length-append xs (120 ∷ [])) ∙ ap length same in
    let place : length xs ≡ n = omega arith in
    ap (λ l. get_or l n 0) (sym same) ∙ get_or_push xs 120 0 n place

no_text : (xs ys : List ℕ) → (xs ++ 120 ∷ [] ≡ ys → ⊥) → bytes_eq (xs ++ 120 ∷ []) ys ≡ false
no_text xs ys other = false_from_ne_true (bytes_eq (xs ++ 120 ∷ []) ys) (λ same. other ((bytes_eq-Decides (xs ++ 120 ∷ []) ys).0 same))

no_result : (xs : List ℕ) → is_result (xs ++ 120 ∷ []) ≡ false
no_result xs =
    or_from (bytes_eq (xs ++ 120 ∷ []) (codes "1-0") || bytes_eq (xs ++ 120 ∷ []) (codes "0-1")) (bytes_eq (xs ++ 120 ∷ []) (codes "1/2-1/2"))
    (or_from (bytes_eq (xs ++ 120 ∷ []) (codes "1-0")) (bytes_eq (xs ++ 120 ∷ []) (codes "0-1"))
    (no_text xs (codes "1-0") (λ same. let e = ends_with_x xs (codes "1-0") 2 refl same in absurd (omega arith)))
    (no_text xs (codes "0-1") (λ same. let e = ends_with_x xs (codes "0-1") 2 refl same in absurd (omega arith))))
    (no_text xs (codes "1/2-1/2") (λ same. let e = ends_with_x xs (codes "1/2-1/2") 6 refl same in absurd (omega arith)))

-- a lexeme that may grow opens no tag pair
pub grows_no_open : (kind : LexemeKind) → is_left_open kind ≡ true → opens kind ≡ false
grows_no_open (Token Open) grows = absurd (true≢false (sym grows))
grows_no_open (Token Close) grows = refl
grows_no_open (Token Text) grows = refl
grows_no_open (Token Symbol) grows = refl
grows_no_open (Token Period) grows = refl
grows_no_open (Token Star) grows = refl
grows_no_open (Token LeftParen) grows = refl
grows_no_open (Token RightParen) grows = refl
grows_no_open (Token (Nag g)) grows = refl
grows_no_open (Token Null) grows = refl
grows_no_open (Token Comment) grows = refl
grows_no_open (Token LineComment) grows = refl
grows_no_open (Token BadByte) grows = refl
grows_no_open (Token UnclosedComment) grows = refl
grows_no_open (Token UnclosedText) grows = refl
grows_no_open EscapeLine grows = refl

-- the same of a lexeme of two bytes or more
pub long_no_open : (first : Bool) (kind : LexemeKind) (text : List ℕ) → IsLexeme first kind text → 1 < length text → opens kind ≡ false
long_no_open first (Token Open) text is long = let e = ap length is in absurd (omega arith)
long_no_open first (Token Close) text is long = refl
long_no_open first (Token Text) text is long = refl
long_no_open first (Token Symbol) text is long = refl
long_no_open first (Token Period) text is long = refl
long_no_open first (Token Star) text is long = refl
long_no_open first (Token LeftParen) text is long = refl
long_no_open first (Token RightParen) text is long = refl
long_no_open first (Token (Nag g)) text is long = refl
long_no_open first (Token Null) text is long = refl
long_no_open first (Token Comment) text is long = refl
long_no_open first (Token LineComment) text is long = refl
long_no_open first (Token BadByte) text is long = refl
long_no_open first (Token UnclosedComment) text is long = refl
long_no_open first (Token UnclosedText) text is long = refl
long_no_open first EscapeLine text is long = refl

-- a text that ends with x marks no end, and neither does one that may grow and is no symbol
long_no_marker : (first : Bool) (kind : LexemeKind) (xs : List ℕ) → IsLexeme first kind (xs ++ 120 ∷ []) → 0 < length xs → marks kind (xs ++ 120 ∷ []) ≡ false
long_no_marker first (Token Star) xs is some = let e = ap length is in let size = length-append xs (120 ∷ []) in absurd (omega arith)
long_no_marker first (Token Symbol) xs is some = no_result xs
long_no_marker first (Token Open) xs is some = refl
long_no_marker first (Token Close) xs is some = refl
long_no_marker first (Token Text) xs is some = refl
long_no_marker first (Token Period) xs is some = refl
long_no_marker first (Token LeftParen) xs is some = refl
long_no_marker first (Token RightParen) xs is some = refl
long_no_marker first (Token (Nag g)) xs is some = refl
long_no_marker first (Token Null) xs is some = refl
long_no_marker first (Token Comment) xs is some = refl
long_no_marker first (Token LineComment) xs is some = refl
long_no_marker first (Token BadByte) xs is some = refl
long_no_marker first (Token UnclosedComment) xs is some = refl
long_no_marker first (Token UnclosedText) xs is some = refl
long_no_marker first EscapeLine xs is some = refl

kept_no_marker : (kind : LexemeKind) (text : List ℕ) → is_left_open kind ≡ true → (kind ≡ Token Symbol → ⊥) → marks kind text ≡ false
kept_no_marker (Token Star) text grows other = absurd (true≢false (sym grows))
kept_no_marker (Token Symbol) text grows other = absurd (other refl)
kept_no_marker (Token Open) text grows other = refl
kept_no_marker (Token Close) text grows other = refl
kept_no_marker (Token Text) text grows other = refl
kept_no_marker (Token Period) text grows other = refl
kept_no_marker (Token LeftParen) text grows other = refl
kept_no_marker (Token RightParen) text grows other = refl
kept_no_marker (Token (Nag g)) text grows other = refl
kept_no_marker (Token Null) text grows other = refl
kept_no_marker (Token Comment) text grows other = refl
kept_no_marker (Token LineComment) text grows other = refl
kept_no_marker (Token BadByte) text grows other = refl
kept_no_marker (Token UnclosedComment) text grows other = refl
kept_no_marker (Token UnclosedText) text grows other = refl
kept_no_marker EscapeLine text grows other = refl

all_push : {A : Type 0} (P : A → Type 0) (xs : List A) (y : A) → AllByRecursion P xs → P y → AllByRecursion P (xs ++ y ∷ [])
all_push P [] y all last = (last, tt)
all_push P (x ∷ xs) y all last = (all.0, all_push P xs y all.1 last)

-- x continues a symbol
symbol_grows : (first : Bool) (text : List ℕ) → IsLexeme first (Token Symbol) text → IsLexeme first (Token Symbol) (text ++ 120 ∷ [])
symbol_grows first text is = (is.0, is.1 ++ 120 ∷ [], ap (λ t. t ++ 120 ∷ []) is.2, is.3, all_push (λ c. continues_symbol c ≡ true) is.1 120 is.4 refl)

-- the closed games of a front, compared with the cut of any longer archive, and with that of the front itself
record Closes (front : List ℕ) : Type 0 where
  stay : (more : List ℕ) → (rest : List Span) × (cut (front ++ more) ≡ closed front ++ rest)
  whole : (last : List Span) × (cut front ≡ closed front ++ last) × FinishesAt (length front) last

-- the laws of lexemes, as a type
abbrev pub FrontsSettle : Type 0
FrontsSettle = (start : ℕ) (first : Bool) (front : List ℕ) → Settles start first front

abbrev pub LexemesFollow : Type 0
LexemesFollow = (at : ℕ) (first : Bool) (b : ℕ) (bs : List ℕ) → is_white b ≡ false →
    lexemes at first (b ∷ bs) ≡ lexeme at first b bs ∷ lexemes (at + (reading first b bs).len) (first_at first (b ∷ bs) (reading first b bs).len) (drop (reading first b bs).len (b ∷ bs))

abbrev pub ReadingsGrow : Type 0
ReadingsGrow = (first : Bool) (b : ℕ) (bs more : List ℕ) → Grows first b bs more

abbrev pub AreLongest : Type 0
AreLongest = (first : Bool) (b : ℕ) (rest : List ℕ) → IsLongest first (b ∷ rest) (reading first b rest)

module _ (follow : LexemesFollow) (grow : ReadingsGrow) (longest : AreLongest) where
  -- the one lexeme of a text that is read whole
  one_lexeme : (at : ℕ) (first : Bool) (b : ℕ) (bs : List ℕ) → is_white b ≡ false → (reading first b bs).len ≡ length (b ∷ bs) → lexemes at first (b ∷ bs) ≡ lexeme at first b bs ∷ []
  unfolding lexemes_from
  one_lexeme at first b bs dark whole =
      let n = (reading first b bs).len in
      follow at first b bs dark ∙ ap (λ l. lexeme at first b bs ∷ lexemes (at + n) (first_at first (b ∷ bs) n) l) (drop_all n (b ∷ bs) (omega arith))

  -- the games of a lexeme that reaches the end, alone after a game
  whole_ends : (at : ℕ) (first : Bool) (game : List Lexeme) (b : ℕ) (bs : List ℕ) → is_white b ≡ false → (reading first b bs).len ≡ length (b ∷ bs) → is_left_open (reading first b bs).kind ≡ true
      → FinishesAt (at + length (b ∷ bs)) (cut_from (at + length (b ∷ bs)) game (lexemes at first (b ∷ bs)))
  unfolding cut_from
  whole_ends at first game b bs dark whole grows =
      let l = lexeme at first b bs in
      let place = at + length (b ∷ bs) in
      let size : length l.text ≡ (reading first b bs).len = length-take-le (reading first b bs).len (b ∷ bs) (omega arith) in
      let ends : end l ≡ place = omega arith in
      let before : ends_before game l ≡ false = ap (λ t. t && first && has_movetext game) (grows_no_open (reading first b bs).kind grows) in
      subst (FinishesAt place) (sym (ap (cut_from place game) (one_lexeme at first b bs dark whole)
      ∙ ap (λ t. cond t (span_to at game ++ cut_from place (l ∷ []) [])
      (cond (ends_after game l) (span_to (end l) (game ++ l ∷ []) ++ cut_from place [] []) (cut_from place (game ++ l ∷ []) []))) before
      ∙ ap (λ e. cond (ends_after game l) (span_to e (game ++ l ∷ []) ++ cut_from place [] []) (cut_from place (game ++ l ∷ []) [])) ends))
      (of_both (FinishesAt place) (ends_after game l) (span_to place (game ++ l ∷ []) ++ []) (cut_from place (game ++ l ∷ []) [])
      (first_of_span place (game ++ l ∷ [])) (last_ends place (game ++ l ∷ [])))

  -- the reading of such a text with x after it either takes the x or stays
  x_taken : (at : ℕ) (first : Bool) (game : List Lexeme) (b : ℕ) (bs : List ℕ) → is_white b ≡ false → length (b ∷ bs) < (reading first b (bs ++ 120 ∷ [])).len
      → FinishesAt (at + length (b ∷ bs) + 1) (cut_from (at + length (b ∷ bs) + 1) game (lexemes at first (b ∷ bs ++ 120 ∷ [])))
  x_taken at first game b bs dark longer =
      let r = reading first b (bs ++ 120 ∷ []) in
      let l = lexeme at first b (bs ++ 120 ∷ []) in
      let place = at + length (b ∷ bs) + 1 in
      let long = longest first b (bs ++ 120 ∷ []) in
      let size : length (b ∷ bs ++ 120 ∷ []) ≡ length (b ∷ bs) + 1 = length-append (b ∷ bs) (120 ∷ []) in
      let within = long.within in
      let whole : r.len ≡ length (b ∷ bs ++ 120 ∷ []) = omega arith in
      let all : take r.len (b ∷ bs ++ 120 ∷ []) ≡ b ∷ bs ++ 120 ∷ [] = take_all r.len (b ∷ bs ++ 120 ∷ []) (omega arith) in
      let is : IsLexeme first r.kind (b ∷ bs ++ 120 ∷ []) = subst (IsLexeme first r.kind) all long.reads in
      let no_marker : is_marker l ≡ false = ap (marks r.kind) all ∙ long_no_marker first r.kind (b ∷ bs) is (omega arith) in
      subst (FinishesAt place) (sym (ap (cut_from place game) (one_lexeme at first b (bs ++ 120 ∷ []) dark whole)
      ∙ goes_in place game l [] (long_no_open first r.kind (b ∷ bs ++ 120 ∷ []) is (omega arith)) no_marker))
      (last_ends place (game ++ l ∷ []))

  -- a symbol takes the x
  no_symbol : (first : Bool) (b : ℕ) (bs : List ℕ) → (reading first b bs).len ≡ length (b ∷ bs)
      → (reading first b (bs ++ 120 ∷ [])).len ≤ length (b ∷ bs) → (reading first b bs).kind ≡ Token Symbol → ⊥
  no_symbol first b bs whole stays is =
      let short = longest first b bs in
      let size : length (b ∷ bs ++ 120 ∷ []) ≡ length (b ∷ bs) + 1 = length-append (b ∷ bs) (120 ∷ []) in
      let all : take (reading first b bs).len (b ∷ bs) ≡ b ∷ bs = take_all (reading first b bs).len (b ∷ bs) (omega arith) in
      let symbol_ : IsLexeme first (Token Symbol) (b ∷ bs) = subst (λ k. IsLexeme first k (b ∷ bs)) is (subst (IsLexeme first (reading first b bs).kind) all short.reads) in
      let more : IsLexeme first (Token Symbol) (take (length (b ∷ bs) + 1) (b ∷ bs ++ 120 ∷ [])) =
      subst (IsLexeme first (Token Symbol)) (sym (take_all (length (b ∷ bs) + 1) (b ∷ bs ++ 120 ∷ []) (omega arith))) (symbol_grows first (b ∷ bs) symbol_) in
      let most = (longest first b (bs ++ 120 ∷ [])).longest (Token Symbol) (length (b ∷ bs) + 1) (omega arith) more in
      absurd (omega arith)

  x_left : (at : ℕ) (first : Bool) (game : List Lexeme) (b : ℕ) (bs : List ℕ) → is_white b ≡ false → (reading first b bs).len ≡ length (b ∷ bs) → is_left_open (reading first b bs).kind ≡ true
      → (reading first b (bs ++ 120 ∷ [])).len ≤ length (b ∷ bs)
      → FinishesAt (at + length (b ∷ bs) + 1) (cut_from (at + length (b ∷ bs) + 1) game (lexemes at first (b ∷ bs ++ 120 ∷ [])))
  x_left at first game b bs dark whole grows stays =
      let r = reading first b bs in
      let l = lexeme at first b (bs ++ 120 ∷ []) in
      let place = at + length (b ∷ bs) + 1 in
      let same : reading first b (bs ++ 120 ∷ []) ≡ r = (grow first b bs (120 ∷ [])).same stays in
      let no_open : opens l.kind ≡ false = ap (λ q. opens q.kind) same ∙ grows_no_open r.kind grows in
      let no_marker : is_marker l ≡ false = ap (λ q. marks q.kind (take q.len (b ∷ bs ++ 120 ∷ []))) same ∙ kept_no_marker r.kind _ grows (no_symbol first b bs whole stays) in
      let x_rest : drop (reading first b (bs ++ 120 ∷ [])).len (b ∷ bs ++ 120 ∷ []) ≡ 120 ∷ [] =
      ap (λ q. drop q.len (b ∷ bs ++ 120 ∷ [])) same ∙ drop-append-le r.len (b ∷ bs) (120 ∷ []) (omega arith) ∙ ap (λ t. t ++ 120 ∷ []) (drop_all r.len (b ∷ bs) (omega arith)) in
      let n = (reading first b (bs ++ 120 ∷ [])).len in
      subst (FinishesAt place) (sym (ap (cut_from place game) (follow at first b (bs ++ 120 ∷ []) dark)
      ∙ goes_in place game l (lexemes (at + n) (first_at first (b ∷ bs ++ 120 ∷ []) n) (drop n (b ∷ bs ++ 120 ∷ []))) no_open no_marker
      ∙ ap (λ t. cut_from place (game ++ l ∷ []) (lexemes (at + n) (first_at first (b ∷ bs ++ 120 ∷ []) n) t)) x_rest))
      (x_ends place (at + n) (first_at first (b ∷ bs ++ 120 ∷ []) n) (game ++ l ∷ []))

  -- the games of what a front leaves open have nothing in common with those that are there once x follows
  open_apart : (at : ℕ) (first : Bool) (game : List Lexeme) (bytes : List ℕ) → IsUnsettled first bytes
      → common_prefix_len same_span (cut_from (at + length bytes) game (lexemes at first bytes)) (cut_from (at + length bytes + 1) game (lexemes at first (bytes ++ 120 ∷ []))) ≡ 0
  unfolding lexemes_from
  open_apart at first game [] unsettled = apart (at + 0) _ _ (last_ends (at + 0) game) (x_ends (at + 0 + 1) at first game)
  open_apart at first game (b ∷ bs) unsettled =
      apart (at + length (b ∷ bs)) _ _ (whole_ends at first game b bs unsettled.0 unsettled.1 unsettled.2)
      (⊎_elim (λ longer. x_taken at first game b bs unsettled.0 longer) (λ stays. x_left at first game b bs unsettled.0 unsettled.1 unsettled.2 stays)
      (cases_lt (length (b ∷ bs)) (reading first b (bs ++ 120 ∷ [])).len))

  -- the open part of a front is at most one game, which ends with it
  open_finishes : (at : ℕ) (first : Bool) (game : List Lexeme) (bytes : List ℕ) → IsUnsettled first bytes
      → FinishesAt (at + length bytes) (cut_from (at + length bytes) game (lexemes at first bytes))
  unfolding lexemes_from
  open_finishes at first game [] unsettled = last_ends (at + 0) game
  open_finishes at first game (b ∷ bs) unsettled = whole_ends at first game b bs unsettled.0 unsettled.1 unsettled.2

  -- the closed games of a front are those that some of its lexemes close, where what they leave open is unsettled
  pub closed_is : (front : List ℕ) (games : List Span) (at : ℕ) (first : Bool) (game : List Lexeme) (left : List ℕ) → IsUnsettled first left → at + length left ≡ length front
      → ((more : List ℕ) → cut (front ++ more) ≡ games ++ cut_from (length front + length more) game (lexemes at first (left ++ more))) → closed front ≡ games
  closed_is front games at first game left unsettled size cuts =
      let last = cut_from (length front) game (lexemes at first left) in
      let here : cut front ≡ games ++ last =
      ap cut (sym (append-nil front)) ∙ cuts [] ∙ ap₂ (λ n t. games ++ cut_from n game (lexemes at first t)) (add-zero (length front)) (append-nil left) in
      let none : common_prefix_len same_span last (cut_from (length front + 1) game (lexemes at first (left ++ 120 ∷ []))) ≡ 0 =
      subst (λ n. common_prefix_len same_span (cut_from n game (lexemes at first left)) (cut_from (n + 1) game (lexemes at first (left ++ 120 ∷ []))) ≡ 0) size
      (open_apart at first game left unsettled) in
      ap₂ (λ xs ys. take (common_prefix_len same_span xs ys) xs) here (cuts (120 ∷ []))
      ∙ common_front games last (cut_from (length front + 1) game (lexemes at first (left ++ 120 ∷ []))) none

  -- the closed games of a front, where what follows doesn't change the byte order mark
  module _ (settle : FrontsSettle) where
    closes_after_mark : (front : List ℕ) → ((more : List ℕ) → text_start (front ++ more) ≡ text_start front) → Closes front
    closes_after_mark front same =
        let start = text_start front in
        let inside = text_within front in
        let text = drop start front in
        let s = settle start true text in
        let place = s.place in
        let column = first_at true text place in
        let left = drop place text in
        let size : start + place + length left ≡ length front = let a = length-drop start front in let b = length-drop place text in let c = s.within in omega arith in
        let games = closed_by [] s.settled in
        let game = open_by [] s.settled in
        let C : List ℕ → List Span = λ m. cut_from (length front + length m) game (lexemes (start + place) column (left ++ m)) in
        let cuts : (m : List ℕ) → cut (front ++ m) ≡ games ++ C m = λ m.
        ap₂ (λ n k. cut_from n [] (lexemes k true (drop k (front ++ m)))) (length-append front m) (same m)
        ∙ ap (λ t. cut_from (length front + length m) [] (lexemes start true t)) (drop-append-le start front m inside)
        ∙ ap (cut_from (length front + length m) []) (s.stay m)
        ∙ cut_splits (length front + length m) [] s.settled (lexemes (start + place) column (left ++ m)) in
        let here : cut front ≡ games ++ cut_from (length front) game (lexemes (start + place) column left) =
        ap cut (sym (append-nil front)) ∙ cuts [] ∙ ap₂ (λ n t. games ++ cut_from n game (lexemes (start + place) column t)) (add-zero (length front)) (append-nil left) in
        let closes : closed front ≡ games = closed_is front games (start + place) column game left s.unsettled size cuts in
        let last = cut_from (length front) game (lexemes (start + place) column left) in
        record {
          stay = λ more. (C more, cuts more ∙ ap (λ g. g ++ C more) (sym closes));
          whole = (
            last,
            here ∙ ap (λ g. g ++ last) (sym closes),
            subst (λ n. FinishesAt n (cut_from n game (lexemes (start + place) column left))) size (open_finishes (start + place) column game left s.unsettled),
          );
        }

-- a part of a byte order mark closes nothing
pub one_closes_nothing : closed (239 ∷ []) ≡ []
unfolding lexemes_from cut_from reading single symbol
one_closes_nothing = refl

pub two_close_nothing : closed (239 ∷ 187 ∷ []) ≡ []
unfolding lexemes_from cut_from reading single symbol
two_close_nothing = refl

pub nothing_closes : closed [] ≡ []
unfolding lexemes_from cut_from
nothing_closes = refl

nothing_finishes : FinishesAt 0 (cut [])
unfolding lexemes_from cut_from
nothing_finishes = tt

one_finishes : FinishesAt 1 (cut (239 ∷ []))
unfolding lexemes_from cut_from reading single
one_finishes = refl

two_finish : FinishesAt 2 (cut (239 ∷ 187 ∷ []))
unfolding lexemes_from cut_from reading single
two_finish = refl

closes_nothing : (front : List ℕ) → closed front ≡ [] → FinishesAt (length front) (cut front) → Closes front
closes_nothing front none finishes = record {
  stay = λ more. (cut (front ++ more), ap (λ g. g ++ cut (front ++ more)) (sym none));
  whole = (cut front, ap (λ g. g ++ cut front) (sym none), finishes);
}

both_false : (a : Bool) → (a && false) ≡ false
both_false true = refl
both_false false = refl

and_assoc_false : (a b c : Bool) → (a && b) ≡ false → (a && (b && c)) ≡ false
and_assoc_false true true c is = absurd (true≢false is)
and_assoc_false true false c is = refl
and_assoc_false false b c is = refl

module _ (follow : LexemesFollow) (grow : ReadingsGrow) (longest : AreLongest) (settle : FrontsSettle) where
  closes : (front : List ℕ) → Closes front
  closes [] = closes_nothing [] nothing_closes nothing_finishes
  closes (x ∷ []) =
      ⊎_elim (λ mark. subst (λ b. Closes (b ∷ [])) (eqb-true 239 x mark) (closes_nothing (239 ∷ []) one_closes_nothing one_finishes))
      (λ other. closes_after_mark follow grow longest settle (x ∷ [])
      (λ m. ap (λ t. cond (t && starts_with nat_eq m (187 ∷ 191 ∷ [])) 3 0) other ∙ sym (ap (λ t. cond t 3 0) (both_false (239 == x)))))
      (cases_Bool (239 == x))
  closes (x ∷ y ∷ []) =
      ⊎_elim (λ mark.
      let parts = and_parts (239 == x) (187 == y) mark in
      subst (λ b. Closes (b ∷ y ∷ [])) (eqb-true 239 x parts.0)
      (subst (λ b. Closes (239 ∷ b ∷ [])) (eqb-true 187 y parts.1) (closes_nothing (239 ∷ 187 ∷ []) two_close_nothing two_finish)))
      (λ other. closes_after_mark follow grow longest settle (x ∷ y ∷ [])
      (λ m. ap (λ t. cond t 3 0) (and_assoc_false (239 == x) (187 == y) (starts_with nat_eq m (191 ∷ [])) other)
      ∙ sym (ap (λ t. cond t 3 0) (and_assoc_false (239 == x) (187 == y) false other))))
      (cases_Bool ((239 == x) && (187 == y)))
  closes (x ∷ y ∷ z ∷ zs) = closes_after_mark follow grow longest settle (x ∷ y ∷ z ∷ zs) (λ m. refl)

  pub closed_stay : (front more : List ℕ) → (rest : List Span) × (cut (front ++ more) ≡ closed front ++ rest)
  closed_stay front = (closes front).stay

  pub closed_whole : (front : List ℕ) → (last : List Span) × (cut front ≡ closed front ++ last) × FinishesAt (length front) last
  closed_whole front = (closes front).whole

  -- so more bytes close more games
  pub closed_grow : (front more : List ℕ) → (rest : List Span) × (closed (front ++ more) ≡ closed front ++ rest)
  closed_grow front more =
      let now = closed_stay front more in
      let later = closed_stay front (more ++ 120 ∷ []) in (
        take (common_prefix_len same_span now.0 later.0) now.0,
        ap₂ (λ xs ys. take (common_prefix_len same_span xs ys) xs) now.1 (ap cut (append_assoc front more (120 ∷ [])) ∙ later.1)
            ∙ common_parts (closed front) now.0 later.0,
      )
