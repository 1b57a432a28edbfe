-- The reading at a place is a lexeme of its kind.
use Rattle.std.proofs.Common.{◌≡◌, ◌≢◌, ℕ, suc, ◌+◌, ◌<◌, Bool, true, false, List, [], ◌∷◌, ◌++◌, length, get_or, take, refl, sym, ap, ap₂, ◌∙◌, subst, inl, inr, ⊎_elim, arith, eqb-true, min}
use Rattle.std.specs.Prelude.{◌==◌, ◌&&◌, not, nat_lt, if◌then◌else◌, slice_index}
use Rattle.std.specs.List.{AllByRecursion, prefix_len, position_or_len}
use Rattle.std.specs.Char.{is_ascii_digit, is_ascii_alphanumeric}
use Rattle.std.specs.Str.Parse.{digits_value}
use Rattle.std.proofs.lemmas.Bool.{cases_eq, eq-eqb, ltb-true, not-true, false≢true}
use Rattle.std.proofs.lemmas.Bool.Decides.{nat_tests}
use Rattle.std.proofs.lemmas.List.{take_more, length-take-le}
use Rattle.std.proofs.lemmas.List.Sums.{prefix_len-le-length, passes_at_first}
use Rattle.pgn_lexer.specs.Bytes.{ends_line, continues_symbol}
use Rattle.pgn_lexer.proofs.Bodies.{IsUnfinished, plain_body, plain_unfinished, escaped_unfinished}
use Rattle.pgn_lexer.specs.Readings.{token, comment, line_comment, escape_line, ends_body, takes_next, body_len, text, symbol, nag, good_suffix, poor_suffix, null_move, single, reading}
use Rattle.pgn_lexer.specs.Grammar.{Lacks, IsPlain, IsBody, IsLexeme}
use Rattle.pgn_lexer.specs.declared.token.Reading.{Reading}
use Rattle.pgn_lexer.specs.declared.token.TokenKind.TheVariants.{Text, Nag, Null, Comment, BadByte, UnclosedComment, UnclosedText}
use Rattle.pgn_lexer.proofs.Lists.{map_all}
use Rattle.pgn_lexer.proofs.Within.{of_both, index_within}

-- the bytes of the longest front pass
pub front_passes : (p : ℕ → Bool) (xs : List ℕ) → AllByRecursion (λ x. p x ≡ true) (take (prefix_len p xs) xs)
front_passes p [] = tt
front_passes p (x ∷ xs) =
    let n = prefix_len p xs in
    let e : suc n ≡ 1 + n = omega arith in
    of_both (λ k. AllByRecursion (λ y. p y ≡ true) (take k (x ∷ xs))) (p x) (1 + n) 0
    (λ yes_. subst (λ k. AllByRecursion (λ y. p y ≡ true) (take k (x ∷ xs))) e (yes_, front_passes p xs))
    (λ _. tt)

-- those before the first such byte aren't it
pub front_lacks : (c : ℕ) (xs : List ℕ) → Lacks c (take (position_or_len (λ b. b == c) xs) xs)
front_lacks c xs = map_all (λ b. not (b == c) ≡ true) (λ b. b ≢ c) (λ b passes is. false≢true (sym (not-true (b == c) passes) ∙ eq-eqb b c is))
    (take (position_or_len (λ b. b == c) xs) xs) (front_passes (λ b. not (b == c)) xs)

one_more : (b : ℕ) (rest : List ℕ) (n : ℕ) → take (n + 1) (b ∷ rest) ≡ b ∷ take n rest
one_more b rest n = let e : n + 1 ≡ suc n = omega arith in ap (λ k. take k (b ∷ rest)) e

module _ (first : Bool) (rest : List ℕ) where
  comment_read : IsLexeme first (comment rest).kind (take (comment rest).len (123 ∷ rest))
  unfolding comment
  comment_read =
      let body = position_or_len (λ b. b == 125) rest in
      of_both (λ (r : Reading). IsLexeme first r.kind (take r.len (123 ∷ rest))) (nat_lt body (length rest)) (token Comment (body + 2)) (token UnclosedComment (body + 1))
      (λ closes.
      let lt : body < length rest = ltb-true body (length rest) closes in
      let e : body + 2 ≡ body + 1 + 1 = omega arith in
      let brace : get_or rest body 0 ≡ 125 = eqb-true (get_or rest body 0) 125 (passes_at_first (λ b. b == 125) rest 0 lt) in (
        take body rest,
        ap (λ k. take k (123 ∷ rest)) e ∙ one_more 123 rest (body + 1) ∙ ap (λ l. 123 ∷ l) (take_more rest body 0 lt ∙ ap (λ c. take body rest ++ c ∷ []) brace),
        front_lacks 125 rest,
      ))
      (λ _. (take body rest, one_more 123 rest body, front_lacks 125 rest))

  line_read : IsLexeme first (line_comment rest).kind (take (line_comment rest).len (59 ∷ rest))
  unfolding line_comment
  line_read = (take (position_or_len ends_line rest) rest, one_more 59 rest (position_or_len ends_line rest), front_lacks 10 rest)

  escape_read : first ≡ true → IsLexeme first (escape_line rest).kind (take (escape_line rest).len (37 ∷ rest))
  unfolding escape_line
  escape_read is = (take (position_or_len ends_line rest) rest, one_more 37 rest (position_or_len ends_line rest), is, front_lacks 10 rest)

  symbol_read : (b : ℕ) → is_ascii_alphanumeric b ≡ true → IsLexeme first (symbol rest).kind (take (symbol rest).len (b ∷ rest))
  unfolding symbol
  symbol_read b is = (b, take (prefix_len continues_symbol rest) rest, one_more b rest (prefix_len continues_symbol rest), is, front_passes continues_symbol rest)

  nag_read : IsLexeme first (nag rest).kind (take (nag rest).len (36 ∷ rest))
  unfolding nag
  nag_read =
      let digits = prefix_len is_ascii_digit rest in
      of_both (λ (r : Reading). IsLexeme first r.kind (take r.len (36 ∷ rest))) (digits == 0) (token BadByte 1) (token (Nag (min 256 (digits_value 10 (take digits rest)))) (digits + 1))
      (λ _. refl)
      (λ some.
      let few = prefix_len-le-length is_ascii_digit rest in
      let many : (digits ≡ 0 → ⊥) = λ none. false≢true (sym some ∙ eq-eqb digits 0 none) in
      let len : length (take digits rest) ≡ digits = length-take-le digits rest few in
      inl (take digits rest, one_more 36 rest digits, omega arith, front_passes is_ascii_digit rest, refl))

-- a byte that is known
at_byte : (first : Bool) (rest : List ℕ) (r : Reading) (c b : ℕ) → (b == c) ≡ true → IsLexeme first r.kind (take r.len (c ∷ rest)) → IsLexeme first r.kind (take r.len (b ∷ rest))
at_byte first rest r c b is read = subst (λ x. IsLexeme first r.kind (take r.len (x ∷ rest))) (sym (eqb-true b c is)) read

and_both : (s t : Bool) → (s && t) ≡ true → (s ≡ true) × (t ≡ true)
and_both true true is = (refl, refl)
and_both true false is = absurd (false≢true is)
and_both false t is = absurd (false≢true is)

never : (t : Bool) → (t && false) ≡ false
never true = refl
never false = refl

-- the second byte of a suffix
second : (b c : ℕ) (rest : List ℕ) → 0 < c → (get_or rest 0 0 == c) ≡ true → take 2 (b ∷ rest) ≡ b ∷ c ∷ []
second b c [] positive is = let e = eqb-true 0 c is in absurd (omega arith)
second b c (x ∷ xs) positive is = ap (λ y. b ∷ y ∷ []) (eqb-true x c is)

module _ (first : Bool) (rest : List ℕ) where
  good_read : IsLexeme first (good_suffix rest).kind (take (good_suffix rest).len (33 ∷ rest))
  unfolding good_suffix
  good_read =
      of_both (λ (r : Reading). IsLexeme first r.kind (take r.len (33 ∷ rest))) (slice_index rest 0 == 33) (token (Nag 3) 2) (if slice_index rest 0 == 63 then token (Nag 5) 2 else token (Nag 1) 1)
      (λ is. inr (inr (inr (inl (refl, second 33 33 rest (omega arith) is)))))
      (λ _. of_both (λ (r : Reading). IsLexeme first r.kind (take r.len (33 ∷ rest))) (slice_index rest 0 == 63) (token (Nag 5) 2) (token (Nag 1) 1)
      (λ is. inr (inr (inr (inr (inr (inl (refl, second 33 63 rest (omega arith) is)))))))
      (λ _. inr (inl (refl, refl))))

  poor_read : IsLexeme first (poor_suffix rest).kind (take (poor_suffix rest).len (63 ∷ rest))
  unfolding poor_suffix
  poor_read =
      of_both (λ (r : Reading). IsLexeme first r.kind (take r.len (63 ∷ rest))) (slice_index rest 0 == 63) (token (Nag 4) 2) (if slice_index rest 0 == 33 then token (Nag 6) 2 else token (Nag 2) 1)
      (λ is. inr (inr (inr (inr (inl (refl, second 63 63 rest (omega arith) is))))))
      (λ _. of_both (λ (r : Reading). IsLexeme first r.kind (take r.len (63 ∷ rest))) (slice_index rest 0 == 33) (token (Nag 6) 2) (token (Nag 2) 1)
      (λ is. inr (inr (inr (inr (inr (inr (refl, second 63 33 rest (omega arith) is)))))))
      (λ _. inr (inr (inl (refl, refl)))))

  null_read : IsLexeme first (null_move rest).kind (take (null_move rest).len (45 ∷ rest))
  unfolding null_move
  null_read =
      of_both (λ (r : Reading). IsLexeme first r.kind (take r.len (45 ∷ rest))) (slice_index rest 0 == 45) (token Null 2) (token BadByte 1)
      (λ is. second 45 45 rest (omega arith) is)
      (λ _. refl)

  single_read : (b : ℕ) → IsLexeme first (single b).kind (take (single b).len (b ∷ rest))
  unfolding single
  single_read b =
      let Is : Reading → Type 0 = λ r. IsLexeme first r.kind (take r.len (b ∷ rest)) in
      of_both Is (b == 91) _ _ (λ is. ap (λ c. c ∷ []) (eqb-true b 91 is)) (λ _.
      of_both Is (b == 93) _ _ (λ is. ap (λ c. c ∷ []) (eqb-true b 93 is)) (λ _.
      of_both Is (b == 40) _ _ (λ is. ap (λ c. c ∷ []) (eqb-true b 40 is)) (λ _.
      of_both Is (b == 41) _ _ (λ is. ap (λ c. c ∷ []) (eqb-true b 41 is)) (λ _.
      of_both Is (b == 46) _ _ (λ is. ap (λ c. c ∷ []) (eqb-true b 46 is)) (λ _.
      of_both Is (b == 42) _ _ (λ is. ap (λ c. c ∷ []) (eqb-true b 42 is)) (λ _. refl))))))

-- the front of a string's body, after a backslash or not
with_backslash : Bool → List ℕ → List ℕ
with_backslash true l = 92 ∷ l
with_backslash false l = l

-- the bytes read of a string's body are a body, and a quote after it ends it whole
record BodyRead (backslash : Bool) (bytes : List ℕ) (n : ℕ) : Type 0 where
  unfinished : IsUnfinished (with_backslash backslash (take n bytes))
  whole : get_or bytes n 0 ≡ 34 → IsBody (with_backslash backslash (take n bytes))

body_read : (backslash : Bool) (bytes : List ℕ) → BodyRead backslash bytes (body_len backslash bytes)
unfolding body_len with_backslash
body_read false [] = record { unfinished = inl tt; whole = λ _. tt }
body_read true [] = record { unfinished = inr ([], refl, tt); whole = λ is. absurd (omega arith) }
body_read false (b ∷ bs) =
    let m = body_len (takes_next false b) bs in
    let e : suc m ≡ 1 + m = omega arith in
    of_both (BodyRead false (b ∷ bs)) (ends_body false b) 0 (1 + m)
    (λ _. record { unfinished = inl tt; whole = λ _. tt })
    (λ goes. subst (BodyRead false (b ∷ bs)) e (⊎_elim
    (λ is.
    let next : takes_next false b ≡ true = ap (λ c. takes_next false c) is in
    let more = body_read true bs in
    let same : body_len true bs ≡ m = ap (λ t. body_len t bs) (sym next) in
    record {
      unfinished = subst IsUnfinished (ap₂ (λ c k. c ∷ take k bs) (sym is) same) more.unfinished;
      whole = λ quote. subst IsBody (ap₂ (λ c k. c ∷ take k bs) (sym is) same) (more.whole (ap (λ k. get_or bs k 0) same ∙ quote));
    })
    (λ other.
    let next : takes_next false b ≡ false = grind (arith, nat_tests) in
    let plain : IsPlain b = (λ is. false≢true (sym goes ∙ ap (ends_body false) is), other, λ is. false≢true (sym goes ∙ ap (ends_body false) is)) in
    let more = body_read false bs in
    let same : body_len false bs ≡ m = ap (λ t. body_len t bs) (sym next) in
    record {
      unfinished = plain_unfinished b (take m bs) plain (subst (λ k. IsUnfinished (take k bs)) same more.unfinished);
      whole = λ quote. plain_body b (take m bs) plain (subst (λ k. IsBody (take k bs)) same (more.whole (ap (λ k. get_or bs k 0) same ∙ quote)));
    })
    (cases_eq b 92)))
body_read true (b ∷ bs) =
    let m = body_len (takes_next true b) bs in
    let e : suc m ≡ 1 + m = omega arith in
    of_both (BodyRead true (b ∷ bs)) (ends_body true b) 0 (1 + m)
    (λ ends. record { unfinished = inr ([], refl, tt); whole = λ quote. absurd (false≢true (ap (ends_body true) (sym quote) ∙ ends)) })
    (λ goes. subst (BodyRead true (b ∷ bs)) e (
    let next : takes_next true b ≡ false = never (b == 92) in
    let other : b ≢ 10 = λ is. false≢true (sym goes ∙ ap (ends_body true) is) in
    let more = body_read false bs in
    let same : body_len false bs ≡ m = ap (λ t. body_len t bs) (sym next) in
    record {
      unfinished = escaped_unfinished b (take m bs) other (subst (λ k. IsUnfinished (take k bs)) same more.unfinished);
      whole = λ quote. inr (refl, other, subst (λ k. IsBody (take k bs)) same (more.whole (ap (λ k. get_or bs k 0) same ∙ quote)));
    }))

text_read : (first : Bool) (rest : List ℕ) → IsLexeme first (text rest).kind (take (text rest).len (34 ∷ rest))
unfolding text with_backslash
text_read first rest =
    let body = body_len false rest in
    let read = body_read false rest in
    of_both (λ (r : Reading). IsLexeme first r.kind (take r.len (34 ∷ rest))) (slice_index rest body == 34) (token Text (body + 2)) (token UnclosedText (body + 1))
    (λ closes.
    let lt = index_within rest body 34 (omega arith) closes in
    let e : body + 2 ≡ body + 1 + 1 = omega arith in
    let quote : get_or rest body 0 ≡ 34 = eqb-true (get_or rest body 0) 34 closes in (
      take body rest,
      ap (λ k. take k (34 ∷ rest)) e ∙ one_more 34 rest (body + 1) ∙ ap (λ l. 34 ∷ l) (take_more rest body 0 lt ∙ ap (λ c. take body rest ++ c ∷ []) quote),
      read.whole quote,
    ))
    (λ _. (take body rest, one_more 34 rest body, read.unfinished))

-- the reading of any byte
pub reading_reads : (first : Bool) (b : ℕ) (rest : List ℕ) → IsLexeme first (reading first b rest).kind (take (reading first b rest).len (b ∷ rest))
unfolding reading
reading_reads first b rest =
    let Is : Reading → Type 0 = λ r. IsLexeme first r.kind (take r.len (b ∷ rest)) in
    of_both Is (is_ascii_alphanumeric b) _ _ (λ is. symbol_read first rest b is) (λ _.
    of_both Is (b == 123) _ _ (λ is. at_byte first rest (comment rest) 123 b is (comment_read first rest)) (λ _.
    of_both Is (b == 59) _ _ (λ is. at_byte first rest (line_comment rest) 59 b is (line_read first rest)) (λ _.
    of_both Is (b == 37 && first) _ _ (λ is. let both = and_both (b == 37) first is in at_byte first rest (escape_line rest) 37 b both.0 (escape_read first rest both.1)) (λ _.
    of_both Is (b == 34) _ _ (λ is. at_byte first rest (text rest) 34 b is (text_read first rest)) (λ _.
    of_both Is (b == 36) _ _ (λ is. at_byte first rest (nag rest) 36 b is (nag_read first rest)) (λ _.
    of_both Is (b == 33) _ _ (λ is. at_byte first rest (good_suffix rest) 33 b is (good_read first rest)) (λ _.
    of_both Is (b == 63) _ _ (λ is. at_byte first rest (poor_suffix rest) 63 b is (poor_read first rest)) (λ _.
    of_both Is (b == 45) _ _ (λ is. at_byte first rest (null_move rest) 45 b is (null_read first rest)) (λ _. single_read first rest b)))))))))
