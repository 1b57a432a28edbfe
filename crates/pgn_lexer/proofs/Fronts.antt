-- The longest reading looks no further than it takes: a front of the rest that holds it gives the same.
use Rattle.std.proofs.Common.{◌≡◌, ℕ, zero, suc, ◌+◌, ◌<◌, ◌≤◌, Bool, true, false, cond, List, [], ◌∷◌, length, get_or, take, refl, sym, ap, ◌∙◌, subst, arith, ⊎_elim, eqb-true, ap₂, min, length-take}
use Rattle.std.specs.Prelude.{◌==◌, ◌&&◌, not, nat_lt, if◌then◌else◌}
use Rattle.std.specs.List.{prefix_len, position_or_len}
use Rattle.std.specs.Char.{is_ascii_digit, is_ascii_alphanumeric}
use Rattle.std.specs.Str.Parse.{digits_value}
use Rattle.std.proofs.lemmas.Bool.{cases_lt, cases_eq, lt-ltb, false_from_ne_true}
use Rattle.std.proofs.lemmas.List.{length-take-le, take_all, take-take, get_or-take, get_or_past}
use Rattle.std.proofs.lemmas.List.Sums.{prefix_len-le-length}
use Rattle.pgn_lexer.specs.Bytes.{ends_line, continues_symbol}
use Rattle.pgn_lexer.specs.Readings.{token, comment, line_comment, escape_line, ends_body, takes_next, body_len, text, symbol, nag, good_suffix, poor_suffix, null_move, reading}
use Rattle.pgn_lexer.specs.declared.token.Reading.{Reading}
use Rattle.pgn_lexer.specs.declared.token.LexemeKind.TheVariants.{EscapeLine}
use Rattle.pgn_lexer.specs.declared.token.TokenKind.TheVariants.{Text, Symbol, Nag, Null, Comment, LineComment, BadByte, UnclosedComment, UnclosedText}

-- s is r where m bytes after the first hold r
abbrev Same : ℕ → Reading → Reading → Type 0
Same m r s = r.len ≤ m + 1 → s ≡ r

same_both : (m : ℕ) (t : Bool) (x y x' y' : Reading) → (t ≡ true → Same m x x') → (t ≡ false → Same m y y') → Same m (cond t x y) (cond t x' y')
same_both m true x y x' y' same_x same_y = same_x refl
same_both m false x y x' y' same_x same_y = same_y refl

counted : (t : Bool) (a b m : ℕ) → cond t (1 + b) 0 ≤ suc m → (t ≡ true → b ≤ m → a ≡ b) → cond t (1 + a) 0 ≡ cond t (1 + b) 0
counted true a b m fits same = ap (λ n. 1 + n) (same refl (omega arith))
counted false a b m fits same = refl

pub prefix_len-take : (p : ℕ → Bool) (m : ℕ) (xs : List ℕ) → prefix_len p xs ≤ m → prefix_len p (take m xs) ≡ prefix_len p xs
prefix_len-take p zero [] fits = refl
prefix_len-take p (suc m) [] fits = refl
prefix_len-take p zero (x ∷ xs) fits = omega arith
prefix_len-take p (suc m) (x ∷ xs) fits = counted (p x) (prefix_len p (take m xs)) (prefix_len p xs) m fits (λ _ less. prefix_len-take p m xs less)

counted_down : (t : Bool) (a b m : ℕ) → cond t 0 (1 + b) ≤ suc m → (t ≡ false → b ≤ m → a ≡ b) → cond t 0 (1 + a) ≡ cond t 0 (1 + b)
counted_down true a b m fits same = refl
counted_down false a b m fits same = ap (λ n. 1 + n) (same refl (omega arith))

body_len-take : (backslash : Bool) (m : ℕ) (xs : List ℕ) → body_len backslash xs ≤ m → body_len backslash (take m xs) ≡ body_len backslash xs
unfolding body_len
body_len-take backslash zero [] fits = refl
body_len-take backslash (suc m) [] fits = refl
body_len-take backslash zero (b ∷ bs) fits = omega arith
body_len-take backslash (suc m) (b ∷ bs) fits =
    counted_down (ends_body backslash b) (body_len (takes_next backslash b) (take m bs)) (body_len (takes_next backslash b) bs) m fits (λ _ less. body_len-take (takes_next backslash b) m bs less)

-- a choice takes at least what both of its readings take
least : (t : Bool) (x y : Reading) (n : ℕ) → n ≤ x.len → n ≤ y.len → (m : ℕ) → (cond t x y).len ≤ m + 1 → n ≤ m + 1
least true x y n nx ny m fits = omega arith
least false x y n nx ny m fits = omega arith

-- the reading of a comment, by the place of its }
abbrev comment_by : ℕ → ℕ → Reading
comment_by body len = if nat_lt body len then token Comment (body + 2) else token UnclosedComment (body + 1)

comment_short : (m body other len : ℕ) → m < len → body ≤ len → (comment_by body len).len ≤ m + 1 → (body ≤ m → other ≡ body) → comment_by other m ≡ comment_by body len
comment_short m body other len short most fits same =
    let few_more = least (nat_lt body len) (token Comment (body + 2)) (token UnclosedComment (body + 1)) (body + 1) (omega arith) (omega arith) m fits in
    let few : body ≤ m = omega arith in
    let closes : nat_lt body len ≡ true = lt-ltb body len (omega arith) in
    let fits_closed : body + 2 ≤ m + 1 = subst (λ t. (if t then token Comment (body + 2) else token UnclosedComment (body + 1)).len ≤ m + 1) closes fits in
    let closes_too : nat_lt body m ≡ true = lt-ltb body m (omega arith) in
    ap (λ n. comment_by n m) (same few)
    ∙ ap (λ t. if t then token Comment (body + 2) else token UnclosedComment (body + 1)) (closes_too ∙ sym closes)

-- the reading of a string, by its body and the byte after that
abbrev text_by : ℕ → ℕ → Reading
text_by body next = if next == 34 then token Text (body + 2) else token UnclosedText (body + 1)

text_short : (m body other : ℕ) (rest : List ℕ) → (text_by body (get_or rest body 0)).len ≤ m + 1 → (body ≤ m → other ≡ body)
    → text_by other (get_or (take m rest) other 0) ≡ text_by body (get_or rest body 0)
text_short m body other rest fits same =
    let few_more = least (get_or rest body 0 == 34) (token Text (body + 2)) (token UnclosedText (body + 1)) (body + 1) (omega arith) (omega arith) m fits in
    let few : body ≤ m = omega arith in
    ap (λ n. text_by n (get_or (take m rest) n 0)) (same few)
    ∙ ⊎_elim
    (λ lt. ap (text_by body) (get_or-take m rest body 0 lt))
    (λ ge.
    let none : get_or (take m rest) body 0 ≡ 0 = get_or_past (take m rest) body 0 (omega (arith, length-take m rest)) in
    let open_ : (get_or rest body 0 == 34) ≡ false = false_from_ne_true (get_or rest body 0 == 34) (λ is.
    let too_far : body + 2 ≤ m + 1 = subst (λ t. (if t then token Text (body + 2) else token UnclosedText (body + 1)).len ≤ m + 1) is fits in omega arith) in
    ap (text_by body) none ∙ sym (ap (λ t. if t then token Text (body + 2) else token UnclosedText (body + 1)) open_))
    (cases_lt body m)

-- the reading of a glyph, by its digits
abbrev nag_by : ℕ → List ℕ → Reading
nag_by digits number = if digits == 0 then token BadByte 1 else token (Nag (min 256 (digits_value 10 number))) (digits + 1)

nag_short : (m digits other : ℕ) (rest : List ℕ) → (nag_by digits (take digits rest)).len ≤ m + 1 → (digits ≤ m → other ≡ digits)
    → nag_by other (take other (take m rest)) ≡ nag_by digits (take digits rest)
nag_short m digits other rest fits same =
    let few : digits ≤ m = ⊎_elim
    (λ none. omega arith)
    (λ some. let nonzero : (digits == 0) ≡ false = false_from_ne_true (digits == 0) (λ is. some (eqb-true digits 0 is)) in
    let fits_all : digits + 1 ≤ m + 1 = subst (λ t. (if t then token BadByte 1 else token (Nag (min 256 (digits_value 10 (take digits rest)))) (digits + 1)).len ≤ m + 1) nonzero fits in omega arith)
    (cases_eq digits 0) in
    ap (λ n. nag_by n (take n (take m rest))) (same few)
    ∙ ap (nag_by digits) (take-take digits m rest few)

-- the reading of a null move, by the byte after its first
null_by : (m : ℕ) (rest : List ℕ) → Same m (if get_or rest 0 0 == 45 then token Null 2 else token BadByte 1) (if get_or (take m rest) 0 0 == 45 then token Null 2 else token BadByte 1)
null_by zero rest fits =
    let not_null : (get_or rest 0 0 == 45) ≡ false = false_from_ne_true (get_or rest 0 0 == 45) (λ is.
    let too_far : 2 ≤ 1 = subst (λ t. (if t then token Null 2 else token BadByte 1).len ≤ 1) is fits in omega arith) in
    sym (ap (λ t. if t then token Null 2 else token BadByte 1) not_null)
null_by (suc m) rest fits = ap (λ n. if n == 45 then token Null 2 else token BadByte 1) (get_or-take (suc m) rest 0 0 (omega arith))

-- a reading that depends on the byte after its first
by_next : (m : ℕ) (c d : ℕ) (x y z : Reading) (rest : List ℕ) → 0 < c → 0 < d → 1 < x.len → 1 < y.len
    → Same m (if get_or rest 0 0 == c then x else (if get_or rest 0 0 == d then y else z)) (if get_or (take m rest) 0 0 == c then x else (if get_or (take m rest) 0 0 == d then y else z))
by_next zero c d x y z rest pc pd long_x long_y fits =
    let not_c : (get_or rest 0 0 == c) ≡ false = false_from_ne_true (get_or rest 0 0 == c) (λ is.
    let too_far : x.len ≤ 1 = subst (λ t. (if t then x else (if get_or rest 0 0 == d then y else z)).len ≤ 1) is fits in omega arith) in
    let fits_on : (if get_or rest 0 0 == d then y else z).len ≤ 1 = subst (λ t. (if t then x else (if get_or rest 0 0 == d then y else z)).len ≤ 1) not_c fits in
    let not_d : (get_or rest 0 0 == d) ≡ false = false_from_ne_true (get_or rest 0 0 == d) (λ is.
    let too_far : y.len ≤ 1 = subst (λ t. (if t then y else z).len ≤ 1) is fits_on in omega arith) in
    let zero_c : (0 == c) ≡ false = false_from_ne_true (0 == c) (λ is. let e = eqb-true 0 c is in absurd (omega arith)) in
    let zero_d : (0 == d) ≡ false = false_from_ne_true (0 == d) (λ is. let e = eqb-true 0 d is in absurd (omega arith)) in
    ap₂ (λ t u. if t then x else (if u then y else z)) (zero_c ∙ sym not_c) (zero_d ∙ sym not_d)
by_next (suc m) c d x y z rest pc pd long_x long_y fits =
    ap (λ n. if n == c then x else (if n == d then y else z)) (get_or-take (suc m) rest 0 0 (omega arith))

module _ (m : ℕ) (rest : List ℕ) where
  comment_same : Same m (comment rest) (comment (take m rest))
  unfolding comment
  comment_same fits = ⊎_elim
      (λ short.
      let len : length (take m rest) ≡ m = length-take-le m rest (omega arith) in
      ap (comment_by (position_or_len (λ b. b == 125) (take m rest))) len
      ∙ comment_short m (position_or_len (λ b. b == 125) rest) (position_or_len (λ b. b == 125) (take m rest)) (length rest) short
      (prefix_len-le-length (λ b. not (b == 125)) rest) fits (prefix_len-take (λ b. not (b == 125)) m rest))
      (λ long. ap comment (take_all m rest long))
      (cases_lt m (length rest))

  line_same : Same m (line_comment rest) (line_comment (take m rest))
  unfolding line_comment
  line_same fits = ap (λ n. token LineComment (n + 1)) (prefix_len-take (λ b. not (ends_line b)) m rest (omega arith))

  escape_same : Same m (escape_line rest) (escape_line (take m rest))
  unfolding escape_line
  escape_same fits = ap (λ n. record { kind = EscapeLine; len = n + 1 }) (prefix_len-take (λ b. not (ends_line b)) m rest (omega arith))

  symbol_same : Same m (symbol rest) (symbol (take m rest))
  unfolding symbol
  symbol_same fits = ap (λ n. token Symbol (n + 1)) (prefix_len-take continues_symbol m rest (omega arith))

  text_same : Same m (text rest) (text (take m rest))
  unfolding text
  text_same fits = text_short m (body_len false rest) (body_len false (take m rest)) rest fits (body_len-take false m rest)

  nag_same : Same m (nag rest) (nag (take m rest))
  unfolding nag
  nag_same fits = nag_short m (prefix_len is_ascii_digit rest) (prefix_len is_ascii_digit (take m rest)) rest fits (prefix_len-take is_ascii_digit m rest)

  good_same : Same m (good_suffix rest) (good_suffix (take m rest))
  unfolding good_suffix
  good_same fits = by_next m 33 63 (token (Nag 3) 2) (token (Nag 5) 2) (token (Nag 1) 1) rest (omega arith) (omega arith) (omega arith) (omega arith) fits

  poor_same : Same m (poor_suffix rest) (poor_suffix (take m rest))
  unfolding poor_suffix
  poor_same fits = by_next m 63 33 (token (Nag 4) 2) (token (Nag 6) 2) (token (Nag 2) 1) rest (omega arith) (omega arith) (omega arith) (omega arith) fits

  null_same : Same m (null_move rest) (null_move (take m rest))
  unfolding null_move
  null_same fits = null_by m rest fits

  pub reading_same : (first : Bool) (b : ℕ) → Same m (reading first b rest) (reading first b (take m rest))
  unfolding reading
  reading_same first b =
      same_both m (is_ascii_alphanumeric b) _ _ _ _ (λ _. symbol_same) (λ _.
      same_both m (b == 123) _ _ _ _ (λ _. comment_same) (λ _.
      same_both m (b == 59) _ _ _ _ (λ _. line_same) (λ _.
      same_both m (b == 37 && first) _ _ _ _ (λ _. escape_same) (λ _.
      same_both m (b == 34) _ _ _ _ (λ _. text_same) (λ _.
      same_both m (b == 36) _ _ _ _ (λ _. nag_same) (λ _.
      same_both m (b == 33) _ _ _ _ (λ _. good_same) (λ _.
      same_both m (b == 63) _ _ _ _ (λ _. poor_same) (λ _.
      same_both m (b == 45) _ _ _ _ (λ _. null_same) (λ _ _. refl)))))))))
