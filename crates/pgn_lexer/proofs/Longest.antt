-- No lexeme at a place has more bytes than the reading there, and of as many there is no other.
use Rattle.std.proofs.Common.{◌≡◌, ◌≢◌, ℕ, zero, suc, ◌+◌, ◌<◌, ◌≤◌, ◌⊎◌, Bool, true, false, cond, List, [], ◌∷◌, ◌++◌, length, get_or, take, drop, refl, sym, ap, ap₂, ◌∙◌, subst, ⊎_elim, arith, eqb-true, min, length-append, append_assoc}
use Rattle.std.specs.Prelude.{◌==◌, not, nat_lt, if◌then◌else◌, slice_index}
use Rattle.std.specs.List.{AllByRecursion, prefix_len, position_or_len}
use Rattle.std.specs.Char.{is_ascii_digit, is_ascii_alphanumeric}
use Rattle.std.specs.Str.Parse.{digits_value}
use Rattle.std.proofs.lemmas.Bool.{lt-ltb, false_from_ne_true, not_from_false, false≢true}
use Rattle.std.proofs.lemmas.List.{length-take-le, take-append-drop, take_at, get_or_at}
use Rattle.pgn_lexer.proofs.Bodies.{body_len-plain, body_len-escaped, body_len-backslash}
use Rattle.pgn_lexer.specs.Bytes.{ends_line, continues_symbol}
use Rattle.pgn_lexer.specs.Readings.{token, comment, line_comment, escape_line, body_len, text, symbol, nag, good_suffix, poor_suffix, null_move, single, reading}
use Rattle.pgn_lexer.specs.Grammar.{Lacks, IsBody, IsSuffix, IsNumbered, IsLexeme, IsLongest}
use Rattle.pgn_lexer.specs.declared.token.Reading.{Reading}
use Rattle.pgn_lexer.specs.declared.token.LexemeKind.{LexemeKind}
use Rattle.pgn_lexer.specs.declared.token.LexemeKind.TheVariants.{EscapeLine, Token}
use Rattle.pgn_lexer.specs.declared.token.TokenKind.TheVariants.{Open, Close, Text, Symbol, Period, Star, LeftParen, RightParen, Nag, Null, Comment, LineComment, BadByte, UnclosedComment, UnclosedText}
use Rattle.pgn_lexer.proofs.Lists.{map_all}
use Rattle.pgn_lexer.proofs.Spelled.{reading_reads}
use Rattle.pgn_lexer.proofs.Within.{of_both, reading_some, reading_within}

-- a lexeme of n bytes has no more than the reading, and is the reading where it has as many
Agrees : LexemeKind → ℕ → Reading → Type 0
Agrees other n r = (n ≤ r.len) × ((other ≡ Token BadByte → ⊥) → n ≡ r.len → r.kind ≡ other)

-- a front of a text gives the text's first byte and the bytes after it
heads : (b : ℕ) (rest : List ℕ) (n c : ℕ) (more : List ℕ) → n ≤ length (b ∷ rest) → take n (b ∷ rest) ≡ c ∷ more → (b ≡ c) × (n ≡ suc (length more)) × (rest ≡ more ++ drop (length more) rest)
heads b rest zero c more fits is = cc
heads b rest (suc k) c more fits is =
    let head : b ≡ c = cc in
    let tail : take k rest ≡ more = cc in
    let len : k ≡ length more = sym (length-take-le k rest (omega arith)) ∙ ap length tail in
    (head, ap suc len, sym (take-append-drop k rest) ∙ ap₂ (λ l j. l ++ drop j rest) tail len)

move : (first : Bool) (other : LexemeKind) (b c n m : ℕ) (rest tail : List ℕ) → b ≡ c → n ≡ m → rest ≡ tail → Agrees other m (reading first c tail) → Agrees other n (reading first b rest)
move first other b c n m rest tail b_is n_is rest_is a =
    subst (λ k. Agrees other k (reading first b rest)) (sym n_is) (subst (λ x. Agrees other m (reading first x rest)) (sym b_is) (subst (λ l. Agrees other m (reading first c l)) (sym rest_is) a))

-- bytes that pass, before others
prefix_len-append : (p : ℕ → Bool) (xs ys : List ℕ) → AllByRecursion (λ x. p x ≡ true) xs → prefix_len p (xs ++ ys) ≡ length xs + prefix_len p ys
prefix_len-append p [] ys all = omega arith
prefix_len-append p (x ∷ xs) ys all =
    let more = prefix_len-append p xs ys all.1 in
    ap (λ t. cond t (1 + prefix_len p (xs ++ ys)) 0) all.0 ∙ omega arith

lacks_passes : (c : ℕ) (xs : List ℕ) → Lacks c xs → AllByRecursion (λ b. not (b == c) ≡ true) xs
lacks_passes c xs lacks = map_all (λ b. b ≢ c) (λ b. not (b == c) ≡ true) (λ b other. not_from_false (b == c) (false_from_ne_true (b == c) (λ is. other (eqb-true b c is)))) xs lacks

body_len-append : (body ys : List ℕ) → IsBody body → body_len false (body ++ ys) ≡ length body + body_len false ys
body_len-append [] ys whole = omega arith
body_len-append (b ∷ []) ys whole = body_len-plain b ys whole
body_len-append (b ∷ c ∷ bs) ys whole = ⊎_elim
    (λ plain.
    let more = body_len-append (c ∷ bs) ys plain.1 in
    body_len-plain b (c ∷ bs ++ ys) plain.0 ∙ omega arith)
    (λ escaped.
    let more = body_len-append bs ys escaped.2 in
    ap (λ x. body_len false (x ∷ c ∷ (bs ++ ys))) escaped.0 ∙ body_len-backslash (c ∷ (bs ++ ys)) ∙ ap (λ n. 1 + n) (body_len-escaped c (bs ++ ys) escaped.1) ∙ omega arith)
    whole

comment_is : (body ys : List ℕ) → Lacks 125 body → Agrees (Token Comment) (suc (length (body ++ 125 ∷ []))) (comment ((body ++ 125 ∷ []) ++ ys))
unfolding comment Agrees
comment_is body ys lacks =
    let rest = (body ++ 125 ∷ []) ++ ys in
    let split : rest ≡ body ++ (125 ∷ ys) = append_assoc body (125 ∷ []) ys in
    let place : position_or_len (λ b. b == 125) rest ≡ length body + 0 = ap (position_or_len (λ b. b == 125)) split
    ∙ prefix_len-append (λ b. not (b == 125)) body (125 ∷ ys) (lacks_passes 125 body lacks) in
    let long : length rest ≡ length body + suc (length ys) = ap length split ∙ length-append body (125 ∷ ys) in
    let closes : nat_lt (position_or_len (λ b. b == 125) rest) (length rest) ≡ true = lt-ltb (position_or_len (λ b. b == 125) rest) (length rest) (omega arith) in
    let n : length (body ++ 125 ∷ []) ≡ length body + 1 = length-append body (125 ∷ []) in
    subst (λ t. Agrees (Token Comment) (suc (length (body ++ 125 ∷ [])))
    (if t then token Comment (position_or_len (λ b. b == 125) rest + 2) else token UnclosedComment (position_or_len (λ b. b == 125) rest + 1))) (sym closes)
    (omega arith, λ _ _. refl)

unclosed_is : (body ys : List ℕ) → Lacks 125 body → Agrees (Token UnclosedComment) (suc (length body)) (comment (body ++ ys))
unfolding comment Agrees
unclosed_is body ys lacks =
    let place = prefix_len-append (λ b. not (b == 125)) body ys (lacks_passes 125 body lacks) in
    of_both (Agrees (Token UnclosedComment) (suc (length body))) (nat_lt (position_or_len (λ b. b == 125) (body ++ ys)) (length (body ++ ys)))
    (token Comment (position_or_len (λ b. b == 125) (body ++ ys) + 2)) (token UnclosedComment (position_or_len (λ b. b == 125) (body ++ ys) + 1))
    (λ _. (omega arith, λ _ as_many. absurd (omega arith)))
    (λ _. (omega arith, λ _ _. refl))

line_is : (line ys : List ℕ) → Lacks 10 line → Agrees (Token LineComment) (suc (length line)) (line_comment (line ++ ys))
unfolding line_comment Agrees
line_is line ys lacks = let place = prefix_len-append (λ b. not (ends_line b)) line ys (lacks_passes 10 line lacks) in (omega arith, λ _ _. refl)

escape_is : (line ys : List ℕ) → Lacks 10 line → Agrees EscapeLine (suc (length line)) (escape_line (line ++ ys))
unfolding escape_line Agrees
escape_is line ys lacks = let place = prefix_len-append (λ b. not (ends_line b)) line ys (lacks_passes 10 line lacks) in (omega arith, λ _ _. refl)

symbol_is : (more ys : List ℕ) → AllByRecursion (λ c. continues_symbol c ≡ true) more → Agrees (Token Symbol) (suc (length more)) (symbol (more ++ ys))
unfolding symbol Agrees
symbol_is more ys all = let place = prefix_len-append continues_symbol more ys all in (omega arith, λ _ _. refl)

nag_is : (digits ys : List ℕ) → 0 < length digits → AllByRecursion (λ d. is_ascii_digit d ≡ true) digits
    → Agrees (Token (Nag (min 256 (digits_value 10 digits)))) (suc (length digits)) (nag (digits ++ ys))
unfolding nag Agrees
nag_is digits ys some all =
    let d = prefix_len is_ascii_digit (digits ++ ys) in
    let place : d ≡ length digits + prefix_len is_ascii_digit ys = prefix_len-append is_ascii_digit digits ys all in
    of_both (Agrees (Token (Nag (min 256 (digits_value 10 digits)))) (suc (length digits))) (d == 0) (token BadByte 1) (token (Nag (min 256 (digits_value 10 (take d (digits ++ ys))))) (d + 1))
    (λ none. let zero_ = eqb-true d 0 none in absurd (omega arith))
    (λ _. (
      omega arith,
      λ _ as_many.
          let same : length digits ≡ d = omega arith in
          ap (λ l. Token (Nag (min 256 (digits_value 10 l)))) (take_at digits ys d same),
    ))

text_is : (body ys : List ℕ) → IsBody body → Agrees (Token Text) (suc (length (body ++ 34 ∷ []))) (text ((body ++ 34 ∷ []) ++ ys))
unfolding text Agrees body_len
text_is body ys whole =
    let rest = (body ++ 34 ∷ []) ++ ys in
    let split : rest ≡ body ++ (34 ∷ ys) = append_assoc body (34 ∷ []) ys in
    let place : body_len false rest ≡ length body + 0 = ap (body_len false) split ∙ body_len-append body (34 ∷ ys) whole in
    let e : length body ≡ length body + 0 = omega arith in
    let quote : get_or rest (body_len false rest) 0 ≡ 34 = ap₂ (λ l k. get_or l k 0) split place ∙ get_or_at body 34 ys 0 (length body + 0) e in
    let n : length (body ++ 34 ∷ []) ≡ length body + 1 = length-append body (34 ∷ []) in
    subst (λ c. Agrees (Token Text) (suc (length (body ++ 34 ∷ []))) (if c == 34 then token Text (body_len false rest + 2) else token UnclosedText (body_len false rest + 1))) (sym quote)
    (omega arith, λ _ _. refl)

unfinished_len : (body ys : List ℕ) → IsBody body ⊎ ((before : List ℕ) × (body ≡ before ++ 92 ∷ []) × IsBody before) → length body ≤ body_len false (body ++ ys)
unfinished_len body ys unfinished = ⊎_elim
    (λ whole. let place = body_len-append body ys whole in omega arith)
    (λ cut.
    let split : body ++ ys ≡ cut.0 ++ (92 ∷ ys) = ap (λ l. l ++ ys) cut.1 ∙ append_assoc cut.0 (92 ∷ []) ys in
    let place : body_len false (body ++ ys) ≡ length cut.0 + body_len false (92 ∷ ys) = ap (body_len false) split ∙ body_len-append cut.0 (92 ∷ ys) cut.2 in
    let next = body_len-backslash ys in
    let n : length body ≡ length cut.0 + 1 = ap length cut.1 ∙ length-append cut.0 (92 ∷ []) in
    omega arith)
    unfinished

unfinished_is : (body ys : List ℕ) → length body ≤ body_len false (body ++ ys) → Agrees (Token UnclosedText) (suc (length body)) (text (body ++ ys))
unfolding text Agrees
unfinished_is body ys few =
    of_both (Agrees (Token UnclosedText) (suc (length body))) (slice_index (body ++ ys) (body_len false (body ++ ys)) == 34)
    (token Text (body_len false (body ++ ys) + 2)) (token UnclosedText (body_len false (body ++ ys) + 1))
    (λ _. (omega arith, λ _ as_many. absurd (omega arith)))
    (λ _. (omega arith, λ _ _. refl))

-- a suffix of one byte, before any other
one_is : (n : ℕ) (t u : Bool) (x y : Reading) → x.len ≡ 2 → y.len ≡ 2 → Agrees (Token (Nag n)) 1 (if t then x else (if u then y else token (Nag n) 1))
unfolding Agrees
one_is n t u x y two_x two_y =
    of_both (Agrees (Token (Nag n)) 1) t x (if u then y else token (Nag n) 1)
    (λ _. (omega arith, λ _ as_many. absurd (omega arith)))
    (λ _. of_both (Agrees (Token (Nag n)) 1) u y (token (Nag n) 1)
    (λ _. (omega arith, λ _ as_many. absurd (omega arith)))
    (λ _. (omega arith, λ _ _. refl)))

-- a reading that is known
exactly : (kind : LexemeKind) (n : ℕ) → Agrees kind n (record { kind = kind; len = n })
unfolding Agrees
exactly kind n = (omega arith, λ _ _. refl)

-- a letter or digit begins a symbol
at_symbol : (first : Bool) (c : ℕ) (rest : List ℕ) (n : ℕ) → is_ascii_alphanumeric c ≡ true → Agrees (Token Symbol) n (symbol rest) → Agrees (Token Symbol) n (reading first c rest)
unfolding reading
at_symbol first c rest n begins a = of_both (Agrees (Token Symbol) n) (is_ascii_alphanumeric c) (symbol rest) _ (λ _. a) (λ other. absurd (false≢true (sym other ∙ begins)))

-- a glyph by its number, and by its suffix
nag_agrees : (first : Bool) (b : ℕ) (rest : List ℕ) (k n : ℕ) → n ≤ length (b ∷ rest) → IsNumbered k (take n (b ∷ rest)) → Agrees (Token (Nag k)) n (reading first b rest)
unfolding reading
nag_agrees first b rest k n fits (digits, is, some, all, value) =
    let h = heads b rest n 36 digits fits is in
    move first (Token (Nag k)) b 36 n (suc (length digits)) rest (digits ++ drop (length digits) rest) h.0 h.1 h.2
    (subst (λ v. Agrees (Token (Nag v)) (suc (length digits)) (nag (digits ++ drop (length digits) rest))) (sym value) (nag_is digits (drop (length digits) rest) some all))

suffix_agrees : (first : Bool) (b : ℕ) (rest : List ℕ) (k n : ℕ) → n ≤ length (b ∷ rest) → IsSuffix k (take n (b ∷ rest)) → Agrees (Token (Nag k)) n (reading first b rest)
unfolding reading good_suffix poor_suffix
suffix_agrees first b rest k n fits suffixed =
    let As : ℕ → Type 0 = λ v. Agrees (Token (Nag v)) n (reading first b rest) in
    ⊎_elim (λ (v, is). let h = heads b rest n 33 [] fits is in
    subst As (sym v) (move first (Token (Nag 1)) b 33 n 1 rest (drop 0 rest) h.0 h.1 h.2
    (one_is 1 (get_or rest 0 0 == 33) (get_or rest 0 0 == 63) (token (Nag 3) 2) (token (Nag 5) 2) refl refl)))
    (⊎_elim (λ (v, is). let h = heads b rest n 63 [] fits is in
    subst As (sym v) (move first (Token (Nag 2)) b 63 n 1 rest (drop 0 rest) h.0 h.1 h.2
    (one_is 2 (get_or rest 0 0 == 63) (get_or rest 0 0 == 33) (token (Nag 4) 2) (token (Nag 6) 2) refl refl)))
    (⊎_elim (λ (v, is). let h = heads b rest n 33 (33 ∷ []) fits is in subst As (sym v) (move first (Token (Nag 3)) b 33 n 2 rest (33 ∷ drop 1 rest) h.0 h.1 h.2 (exactly (Token (Nag 3)) 2)))
    (⊎_elim (λ (v, is). let h = heads b rest n 63 (63 ∷ []) fits is in subst As (sym v) (move first (Token (Nag 4)) b 63 n 2 rest (63 ∷ drop 1 rest) h.0 h.1 h.2 (exactly (Token (Nag 4)) 2)))
    (⊎_elim (λ (v, is). let h = heads b rest n 33 (63 ∷ []) fits is in subst As (sym v) (move first (Token (Nag 5)) b 33 n 2 rest (63 ∷ drop 1 rest) h.0 h.1 h.2 (exactly (Token (Nag 5)) 2)))
    (λ (v, is). let h = heads b rest n 63 (33 ∷ []) fits is in subst As (sym v) (move first (Token (Nag 6)) b 63 n 2 rest (33 ∷ drop 1 rest) h.0 h.1 h.2 (exactly (Token (Nag 6)) 2))))))) suffixed

-- each kind of lexeme, against the reading of the byte that it begins with
agrees : (first : Bool) (b : ℕ) (rest : List ℕ) (other : LexemeKind) (n : ℕ) → n ≤ length (b ∷ rest) → IsLexeme first other (take n (b ∷ rest)) → Agrees other n (reading first b rest)
unfolding Agrees reading good_suffix poor_suffix null_move single
agrees first b rest EscapeLine n fits (line, is, yes_, lacks) =
    let h = heads b rest n 37 line fits is in
    move first EscapeLine b 37 n (suc (length line)) rest (line ++ drop (length line) rest) h.0 h.1 h.2
    (subst (λ f. Agrees EscapeLine (suc (length line)) (reading f 37 (line ++ drop (length line) rest))) (sym yes_) (escape_is line (drop (length line) rest) lacks))
agrees first b rest (Token Open) n fits is =
    let h = heads b rest n 91 [] fits is in move first (Token Open) b 91 n 1 rest ([] ++ drop 0 rest) h.0 h.1 h.2 (exactly (Token Open) 1)
agrees first b rest (Token Close) n fits is =
    let h = heads b rest n 93 [] fits is in move first (Token Close) b 93 n 1 rest ([] ++ drop 0 rest) h.0 h.1 h.2 (exactly (Token Close) 1)
agrees first b rest (Token Text) n fits (body, is, whole) =
    let h = heads b rest n 34 (body ++ 34 ∷ []) fits is in
    move first (Token Text) b 34 n (suc (length (body ++ 34 ∷ []))) rest ((body ++ 34 ∷ []) ++ drop (length (body ++ 34 ∷ [])) rest) h.0 h.1 h.2
    (text_is body (drop (length (body ++ 34 ∷ [])) rest) whole)
agrees first b rest (Token Symbol) n fits (c, more, is, begins, all) =
    let h = heads b rest n c more fits is in
    move first (Token Symbol) b c n (suc (length more)) rest (more ++ drop (length more) rest) h.0 h.1 h.2
    (at_symbol first c (more ++ drop (length more) rest) (suc (length more)) begins (symbol_is more (drop (length more) rest) all))
agrees first b rest (Token Period) n fits is =
    let h = heads b rest n 46 [] fits is in move first (Token Period) b 46 n 1 rest ([] ++ drop 0 rest) h.0 h.1 h.2 (exactly (Token Period) 1)
agrees first b rest (Token Star) n fits is =
    let h = heads b rest n 42 [] fits is in move first (Token Star) b 42 n 1 rest ([] ++ drop 0 rest) h.0 h.1 h.2 (exactly (Token Star) 1)
agrees first b rest (Token LeftParen) n fits is =
    let h = heads b rest n 40 [] fits is in move first (Token LeftParen) b 40 n 1 rest ([] ++ drop 0 rest) h.0 h.1 h.2 (exactly (Token LeftParen) 1)
agrees first b rest (Token RightParen) n fits is =
    let h = heads b rest n 41 [] fits is in move first (Token RightParen) b 41 n 1 rest ([] ++ drop 0 rest) h.0 h.1 h.2 (exactly (Token RightParen) 1)
agrees first b rest (Token (Nag k)) n fits spelled = ⊎_elim (λ numbered. nag_agrees first b rest k n fits numbered) (λ suffixed. suffix_agrees first b rest k n fits suffixed) spelled
agrees first b rest (Token Null) n fits is =
    let h = heads b rest n 45 (45 ∷ []) fits is in move first (Token Null) b 45 n 2 rest (45 ∷ drop 1 rest) h.0 h.1 h.2 (exactly (Token Null) 2)
agrees first b rest (Token Comment) n fits (body, is, lacks) =
    let h = heads b rest n 123 (body ++ 125 ∷ []) fits is in
    move first (Token Comment) b 123 n (suc (length (body ++ 125 ∷ []))) rest
    ((body ++ 125 ∷ []) ++ drop (length (body ++ 125 ∷ [])) rest) h.0 h.1 h.2 (comment_is body (drop (length (body ++ 125 ∷ [])) rest) lacks)
agrees first b rest (Token LineComment) n fits (line, is, lacks) =
    let h = heads b rest n 59 line fits is in
    move first (Token LineComment) b 59 n (suc (length line)) rest (line ++ drop (length line) rest) h.0 h.1 h.2 (line_is line (drop (length line) rest) lacks)
agrees first b rest (Token BadByte) n fits one =
    let some = reading_some first b rest in
    let len : length (take n (b ∷ rest)) ≡ n = length-take-le n (b ∷ rest) fits in
    (omega arith, λ no_ _. absurd (no_ refl))
agrees first b rest (Token UnclosedComment) n fits (body, is, lacks) =
    let h = heads b rest n 123 body fits is in
    move first (Token UnclosedComment) b 123 n (suc (length body)) rest (body ++ drop (length body) rest) h.0 h.1 h.2 (unclosed_is body (drop (length body) rest) lacks)
agrees first b rest (Token UnclosedText) n fits (body, is, unfinished) =
    let h = heads b rest n 34 body fits is in
    move first (Token UnclosedText) b 34 n (suc (length body)) rest (body ++ drop (length body) rest) h.0 h.1 h.2
    (unfinished_is body (drop (length body) rest) (unfinished_len body (drop (length body) rest) unfinished))

-- the reading of each byte that isn't white space is the longest
pub is_longest : (first : Bool) (b : ℕ) (rest : List ℕ) → IsLongest first (b ∷ rest) (reading first b rest)
unfolding Agrees
is_longest first b rest = record {
  within = let fits = reading_within first b rest in omega arith;
  reads = reading_reads first b rest;
  longest = λ other n fits spelled. (agrees first b rest other n fits spelled).0;
  only = λ other no_ spelled.
      let fits = reading_within first b rest in
      (agrees first b rest other (reading first b rest).len (omega arith) spelled).1 no_ refl;
}
