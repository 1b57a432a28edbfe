-- The reading of an open lexeme and the bytes after it.
use Rattle.std.proofs.Common.{◌≡◌, ◌≢◌, ℕ, suc, ◌+◌, ◌<◌, ◌⊎◌, Bool, true, false, cond, List, [], ◌∷◌, ◌++◌, length, get_or, take, drop, refl, sym, ap, ap₂, ◌∙◌, subst, inl, inr, ⊎_elim, arith, true≢false, eqb-true}
use Rattle.std.specs.Prelude.{not, ◌&&◌, ◌||◌, ◌==◌, nat_lt, nat_eq, min, codes, Option, None, Some}
use Rattle.std.specs.List.{AllByRecursion, prefix_len, starts_with}
use Rattle.std.specs.Str.{bytes_eq}
use Rattle.std.specs.Char.{is_ascii_digit, is_ascii_alphanumeric}
use Rattle.std.specs.Str.Parse.{digits_value}
use Rattle.std.proofs.Math.Seq.{take-append_seam, drop-append_seam}
use Rattle.std.proofs.lemmas.Bool.{cases_Bool, false≢true, or_parts, and_parts, eqb-false}
use Rattle.std.proofs.lemmas.Bool.Decides.{nat_tests}
use Rattle.std.proofs.lemmas.List.{append-nil, append_assoc, get_or_append_left}
use Rattle.cq_common.specs.Text.{is_white}
use Rattle.pgn_lexer.specs.Bytes.{ends_line, continues_symbol}
use Rattle.pgn_lexer.specs.Grammar.{IsBody, IsLexeme}
use Rattle.pgn_lexer.specs.Lexemes.{lexemes, first_at}
use Rattle.pgn_lexer.specs.Readings.{reading, nag, good_suffix, poor_suffix, null_move, single}
use Rattle.pgn_lexer.specs.Locality.{IsUnsettled, is_left_open}
use Rattle.pgn_lexer.specs.SingleLexeme.{goes_on as goes_on_kind, IsEndedBy, IsReadWhole}
use Rattle.pgn_lexer.specs.declared.token.Reading.{Reading}
use Rattle.pgn_lexer.specs.declared.token.LexemeKind.{LexemeKind}
use Rattle.pgn_lexer.specs.declared.token.LexemeKind.TheVariants.{EscapeLine, Token}
use Rattle.pgn_lexer.specs.declared.token.TokenKind.TheVariants.{Text, Symbol, Nag, Null, Comment, LineComment, BadByte, UnclosedComment, UnclosedText}
use Rattle.pgn_cut.specs.Cut.{is_result, marks}
use Rattle.pgn_cut.specs.States.{IsPartOfText, BeginResults, IsOpen, begins_further, results_from, results_after, are_spelled, begun, takes, finishes, after, kind_at_end, kind_with_last, is_marker_at_end, EndsBefore, AreAlike, IsOneLexeme, EndsAs}
use Rattle.pgn_cut.specs.declared.state.ResultMarkers.{ResultMarkers}
use Rattle.pgn_cut.specs.declared.state.State.{State}
use Rattle.pgn_cut.specs.declared.state.State.TheVariants.{AtStart, OneOfMark, TwoOfMark, Between, InComment, InLine, InText, InSymbol, InNumber, InSuffix, InNull}
use Rattle.pgn_cut.proofs.Closed.{LexemesFollow}

and_assoc : (a b c : Bool) → (a && (b && c)) ≡ ((a && b) && c)
and_assoc true b c = refl
and_assoc false b c = refl

and_true : (a : Bool) → (a && true) ≡ a
and_true true = refl
and_true false = refl

and_false : (a : Bool) → (a && false) ≡ false
and_false true = refl
and_false false = refl

or_absorbs : (a b : Bool) → (b || (a && b)) ≡ b
or_absorbs true true = refl
or_absorbs true false = refl
or_absorbs false true = refl
or_absorbs false false = refl

-- markers and the bytes of a symbol
further_suc : (x b n : ℕ) (xs : List ℕ) → begins_further xs n b ≡ begins_further (x ∷ xs) (suc n) b
further_suc x b n xs = let e : nat_lt n (length xs) ≡ nat_lt (suc n) (suc (length xs)) = grind (arith, nat_tests) in ap (λ t. t && b == get_or xs n 0) e

begins_push : (bytes marker : List ℕ) (b : ℕ) → starts_with nat_eq marker (bytes ++ b ∷ []) ≡ (starts_with nat_eq marker bytes && begins_further marker (length bytes) b)
begins_push [] [] b = refl
begins_push [] (x ∷ []) b = grind (arith, nat_tests)
begins_push [] (x ∷ y ∷ ys) b = grind (arith, nat_tests)
begins_push (c ∷ cs) [] b = refl
begins_push (c ∷ cs) (x ∷ xs) b = ap (λ t. (c == x) && t) (begins_push cs xs b) ∙ and_assoc (c == x) (starts_with nat_eq xs cs) (begins_further xs (length cs) b)
    ∙ ap (λ t. ((c == x) && starts_with nat_eq xs cs) && t) (further_suc x b (length cs) xs)

eq_zero : (n : ℕ) → false ≡ (0 == suc n)
eq_zero n = grind (arith, nat_tests)

eq_suc : (m n : ℕ) → (m == n) ≡ (suc m == suc n)
eq_suc m n = grind (arith, nat_tests)

equal_is : (bytes marker : List ℕ) → bytes_eq bytes marker ≡ (starts_with nat_eq marker bytes && (length bytes == length marker))
equal_is [] [] = refl
equal_is [] (x ∷ xs) = eq_zero (length xs)
equal_is (c ∷ cs) [] = refl
equal_is (c ∷ cs) (x ∷ xs) = ap (λ t. (c == x) && t) (equal_is cs xs) ∙ and_assoc (c == x) (starts_with nat_eq xs cs) (length cs == length xs)
    ∙ ap (λ t. ((c == x) && starts_with nat_eq xs cs) && t) (eq_suc (length cs) (length xs))

spelled_is : (w k d : Bool) (n : ℕ) → ((w && n == 3) || (k && n == 3) || (d && n == 7)) ≡ (((w || k) && n == 3) || (d && n == 7))
spelled_is true k d n = ap (λ t. t || (d && n == 7)) (or_absorbs k (n == 3))
spelled_is false k d n = refl

pub marker_is : (r : ResultMarkers) (bytes : List ℕ) → BeginResults r bytes → are_spelled r (length bytes) ≡ is_result bytes
marker_is r bytes (w, k, d) =
    sym (spelled_is r.white r.black r.draw (length bytes))
    ∙ ap₂ (λ x y. (x && length bytes == 3) || (y && length bytes == 3) || (r.draw && length bytes == 7)) w k
    ∙ ap (λ z. (starts_with nat_eq (codes "1-0") bytes && length bytes == 3) || (starts_with nat_eq (codes "0-1") bytes && length bytes == 3) || (z && length bytes == 7)) d
    ∙ ap₂ (λ x y. x || y || (starts_with nat_eq (codes "1/2-1/2") bytes && length bytes == 7)) (sym (equal_is bytes (codes "1-0"))) (sym (equal_is bytes (codes "0-1")))
    ∙ ap (λ z. bytes_eq bytes (codes "1-0") || bytes_eq bytes (codes "0-1") || z) (sym (equal_is bytes (codes "1/2-1/2")))

results_push : (r : ResultMarkers) (bytes : List ℕ) (b : ℕ) → BeginResults r bytes → BeginResults (results_after r (length bytes) b) (bytes ++ b ∷ [])
results_push r bytes b (w, k, d) = (
  ap (λ t. t && begins_further (codes "1-0") (length bytes) b) w ∙ sym (begins_push bytes (codes "1-0") b),
  ap (λ t. t && begins_further (codes "0-1") (length bytes) b) k ∙ sym (begins_push bytes (codes "0-1") b),
  ap (λ t. t && begins_further (codes "1/2-1/2") (length bytes) b) d ∙ sym (begins_push bytes (codes "1/2-1/2") b),
)

results_begin : (b : ℕ) → BeginResults (results_from b) (b ∷ [])
results_begin b = (grind (arith, nat_tests), grind (arith, nat_tests), grind (arith, nat_tests))

-- the body of a string, in two parts
body_append : (xs ys : List ℕ) → IsBody xs → IsBody ys → IsBody (xs ++ ys)
body_append [] ys front back = back
body_append (b ∷ []) [] front back = front
body_append (b ∷ []) (c ∷ cs) front back = inl (front, back)
body_append (b ∷ c ∷ bs) ys front back =
    ⊎_elim (λ plain. inl (plain.0, body_append (c ∷ bs) ys plain.1 back)) (λ escaped. inr (escaped.0, escaped.1, body_append bs ys escaped.2 back)) front

pub all_push : (P : ℕ → Type 0) (xs : List ℕ) (y : ℕ) → AllByRecursion P xs → P y → AllByRecursion P (xs ++ y ∷ [])
all_push P [] y all last = (last, tt)
all_push P (x ∷ xs) y all last = (all.0, all_push P xs y all.1 last)

no_line : (b : ℕ) → not (ends_line b) ≡ true → b ≢ 10
no_line b other = λ is. absurd (true≢false (sym other ∙ ap (λ c. not (ends_line c)) is))

text_push : (backslash : Bool) (body : List ℕ) (b : ℕ) → IsPartOfText backslash body → not (ends_line b) ≡ true → (b == 34 && not backslash) ≡ false
    → IsPartOfText (b == 92 && not backslash) (body ++ b ∷ [])
text_push false body b part other inside =
    ⊎_elim
    (λ slash. subst (λ t. IsPartOfText (t && true) (body ++ b ∷ [])) (sym slash) (body, ap (λ c. body ++ c ∷ []) (eqb-true b 92 slash), part))
    (λ plain. subst (λ t. IsPartOfText (t && true) (body ++ b ∷ [])) (sym plain)
    (body_append body (b ∷ []) part (eqb-false b 34 (sym (and_true (b == 34)) ∙ inside), eqb-false b 92 plain, no_line b other)))
    (cases_Bool (b == 92))
text_push true body b part other inside =
    subst (λ t. IsPartOfText t (body ++ b ∷ [])) (sym (and_false (b == 92)))
    (subst IsBody (sym (ap (λ l. l ++ b ∷ []) part.1 ∙ append_assoc part.0 (92 ∷ []) (b ∷ [])))
    (body_append part.0 (92 ∷ b ∷ []) part.2 (inr (refl, no_line b other, tt))))

-- a byte that belongs to an open lexeme and isn't its last leaves it open
pub goes_on : (first : Bool) (s : State) (bytes : List ℕ) (b : ℕ) → IsOpen first s bytes → (s ≡ Between → ⊥) → takes s b ≡ true
    → finishes s b ≡ false → IsOpen first (after s (length bytes) b) (bytes ++ b ∷ [])
goes_on first AtStart bytes b is other takes_ more = is
goes_on first OneOfMark bytes b is other takes_ more = is
goes_on first TwoOfMark bytes b is other takes_ more = is
goes_on first Between bytes b is other takes_ more = absurd (other refl)
goes_on first InComment bytes b is other takes_ more = (is.0 ++ b ∷ [], ap (λ l. l ++ b ∷ []) is.1, all_push (λ c. c ≢ 125) is.0 b is.2 (eqb-false b 125 more))
goes_on first InLine bytes b is other takes_ more =
    ⊎_elim
    (λ line. inl (line.0 ++ b ∷ [], ap (λ l. l ++ b ∷ []) line.1, all_push (λ c. c ≢ 10) line.0 b line.2 (no_line b takes_)))
    (λ line. inr (line.0 ++ b ∷ [], ap (λ l. l ++ b ∷ []) line.1, line.2, all_push (λ c. c ≢ 10) line.0 b line.3 (no_line b takes_)))
    is
goes_on first (InText backslash) bytes b is other takes_ more = (is.0 ++ b ∷ [], ap (λ l. l ++ b ∷ []) is.1, text_push backslash is.0 b is.2 takes_ more)
goes_on first (InSymbol r) bytes b is other takes_ more =
    ((is.0.0, is.0.1 ++ b ∷ [], ap (λ l. l ++ b ∷ []) is.0.2, is.0.3, all_push (λ c. continues_symbol c ≡ true) is.0.1 b is.0.4 takes_), results_push r bytes b is.1)
goes_on first InNumber bytes b is other takes_ more = (is.0 ++ b ∷ [], ap (λ l. l ++ b ∷ []) is.1, all_push (λ d. is_ascii_digit d ≡ true) is.0 b is.2 takes_)
goes_on first InSuffix bytes b is other takes_ more = absurd (true≢false more)
goes_on first InNull bytes b is other takes_ more = absurd (true≢false more)

-- the laws of lexemes that the rest requires
abbrev pub StandsAlone : Type 0
StandsAlone = (first : Bool) (kind : LexemeKind) (b : ℕ) (bs : List ℕ) → IsLexeme first kind (b ∷ bs) → (kind ≡ Token BadByte → ⊥) → IsReadWhole first kind b bs

abbrev pub StaysBefore : Type 0
StaysBefore = (first : Bool) (kind : LexemeKind) (b : ℕ) (bs more : List ℕ) → IsReadWhole first kind b bs → IsEndedBy kind more
    → reading first b (bs ++ more) ≡ record { kind = kind; len = length (b ∷ bs) }

pub same_kind : (k : LexemeKind) → AreAlike k k
same_kind k = record { nests = λ d. refl; pairs = λ o. refl; movetext = refl; passed_over = refl; opens_ = refl }

lines_alike : AreAlike (Token LineComment) EscapeLine
lines_alike = record { nests = λ d. refl; pairs = λ o. refl; movetext = refl; passed_over = refl; opens_ = refl }

bad_like_nag : (n : ℕ) → AreAlike (Token BadByte) (Token (Nag n))
bad_like_nag n = record { nests = λ d. refl; pairs = λ o. refl; movetext = refl; passed_over = refl; opens_ = refl }

null_like_nag : (n : ℕ) → AreAlike (Token Null) (Token (Nag n))
null_like_nag n = record { nests = λ d. refl; pairs = λ o. refl; movetext = refl; passed_over = refl; opens_ = refl }

-- digits, and the bytes after them
digits_len : (digits rest : List ℕ) → AllByRecursion (λ d. is_ascii_digit d ≡ true) digits → EndsBefore InNumber rest → prefix_len is_ascii_digit (digits ++ rest) ≡ length digits
digits_len [] [] all ended = refl
digits_len [] (c ∷ cs) all ended = ap (λ t. cond t (1 + prefix_len is_ascii_digit cs) 0) ended
digits_len (d ∷ ds) rest all ended =
    ap (λ t. cond t (1 + prefix_len is_ascii_digit (ds ++ rest)) 0) all.0 ∙ ap (λ n. 1 + n) (digits_len ds rest all.1 ended) ∙ omega arith

number_kind : List ℕ → LexemeKind
number_kind [] = Token BadByte
number_kind (d ∷ ds) = Token (Nag (min 256 (digits_value 10 (d ∷ ds))))

number_read : (first : Bool) (digits rest : List ℕ) → AllByRecursion (λ d. is_ascii_digit d ≡ true) digits → EndsBefore InNumber rest
    → reading first 36 (digits ++ rest) ≡ record { kind = number_kind digits; len = length (36 ∷ digits) }
unfolding reading nag number_kind
number_read first [] rest all ended = ap (λ n. cond (n == 0) (record { kind = Token BadByte; len = 1 })
    (record { kind = Token (Nag (min 256 (digits_value 10 (take n rest)))); len = n + 1 })) (digits_len [] rest all ended)
number_read first (d ∷ ds) rest all ended =
    let some : (suc (length ds) == 0) ≡ false = grind (arith, nat_tests) in
    let one : suc (length ds) + 1 ≡ suc (suc (length ds)) = omega arith in
    ap (λ n. cond (n == 0) (record { kind = Token BadByte; len = 1 })
    (record { kind = Token (Nag (min 256 (digits_value 10 (take n (d ∷ ds ++ rest))))); len = n + 1 })) (digits_len (d ∷ ds) rest all ended)
    ∙ ap (λ t. cond t (record { kind = Token BadByte; len = 1 }) (record { kind = Token (Nag (min 256 (digits_value 10 (take (suc (length ds)) (d ∷ ds ++ rest))))); len = suc (length ds) + 1 })) some
    ∙ ap₂ (λ l n. record { kind = Token (Nag (min 256 (digits_value 10 l))); len = n }) (take-append_seam (d ∷ ds) rest) one

-- suffixes and hyphens, before a byte that doesn't belong to them
good_read : (first : Bool) (rest : List ℕ) → EndsBefore InSuffix rest → reading first 33 rest ≡ record { kind = Token (Nag 1); len = 1 }
unfolding reading good_suffix
good_read first [] ended = refl
good_read first (c ∷ cs) ended =
    let parts = or_parts (c == 33) (c == 63) ended in
    ap₂ (λ t u. cond t (record { kind = Token (Nag 3); len = 2 }) (cond u (record { kind = Token (Nag 5); len = 2 }) (record { kind = Token (Nag 1); len = 1 }))) parts.0 parts.1

poor_read : (first : Bool) (rest : List ℕ) → EndsBefore InSuffix rest → reading first 63 rest ≡ record { kind = Token (Nag 2); len = 1 }
unfolding reading poor_suffix
poor_read first [] ended = refl
poor_read first (c ∷ cs) ended =
    let parts = or_parts (c == 33) (c == 63) ended in
    ap₂ (λ t u. cond u (record { kind = Token (Nag 4); len = 2 }) (cond t (record { kind = Token (Nag 6); len = 2 }) (record { kind = Token (Nag 2); len = 1 }))) parts.0 parts.1

hyphen_read : (first : Bool) (rest : List ℕ) → EndsBefore InNull rest → reading first 45 rest ≡ record { kind = Token BadByte; len = 1 }
unfolding reading null_move
hyphen_read first [] ended = refl
hyphen_read first (c ∷ cs) ended = ap (λ t. cond t (record { kind = Token Null; len = 2 }) (record { kind = Token BadByte; len = 1 })) ended

-- the column after a text, within a longer one
column_in : (first : Bool) (b : ℕ) (bs more : List ℕ) → first_at first (b ∷ bs ++ more) (length (b ∷ bs)) ≡ first_at first (b ∷ bs) (length (b ∷ bs))
column_in first b bs more = ap ends_line (get_or_append_left (b ∷ bs) more 0 (length bs) (omega arith))

has_some : (x : ℕ) (xs bytes : List ℕ) → bytes ≡ x ∷ xs → 0 < length bytes
has_some x xs bytes same = let n = ap length same in omega arith

ended : (s : State) (kind : LexemeKind) → ((b : ℕ) → takes s b ≡ goes_on_kind kind b) → (rest : List ℕ) → EndsBefore s rest → IsEndedBy kind rest
ended s kind same [] ends = tt
ended s kind same (b ∷ bs) ends = sym (same b) ∙ ends

pub ended_always : (kind : LexemeKind) → ((b : ℕ) → goes_on_kind kind b ≡ false) → (rest : List ℕ) → IsEndedBy kind rest
ended_always kind never [] = tt
ended_always kind never (b ∷ bs) = never b

part_of_text : (backslash : Bool) (body : List ℕ) → IsPartOfText backslash body → IsBody body ⊎ ((before : List ℕ) × (body ≡ before ++ 92 ∷ []) × IsBody before)
part_of_text false body part = inl part
part_of_text true body part = inr part

number_alike : (digits : List ℕ) → AreAlike (Token BadByte) (number_kind digits)
unfolding number_kind
number_alike [] = same_kind (Token BadByte)
number_alike (d ∷ ds) = bad_like_nag _

number_marks : (digits : List ℕ) → false ≡ marks (number_kind digits) (36 ∷ digits)
unfolding number_kind
number_marks [] = refl
number_marks (d ∷ ds) = refl

number_left : (digits : List ℕ) → is_left_open (number_kind digits) ≡ true
unfolding number_kind
number_left [] = refl
number_left (d ∷ ds) = refl

-- the state after the first byte of a lexeme, by the tests in turn
of_test : {A : Type 0} (P : A → Type 0) (t : Bool) (x y : A) → (t ≡ true → P x) → (t ≡ false → P y) → P (cond t x y)
of_test P true x y yes_ no_ = yes_ refl
of_test P false x y yes_ no_ = no_ refl

skip : {A : Type 0} (t : Bool) (x y z : A) → t ≡ false → y ≡ z → cond t x y ≡ z
skip true x y z other rest = absurd (true≢false other)
skip false x y z other rest = rest

Begins : (first : Bool) → ℕ → Option State → Type 0
Begins first b (Some s) = IsOpen first s (b ∷ [])
Begins first b None = (rest : List ℕ) → reading first b rest ≡ single b

begins : (first : Bool) (b : ℕ) → Begins first b (begun first b)
unfolding Begins reading
begins first b =
    let P = Begins first b in
    of_test P (is_ascii_alphanumeric b) _ _ (λ e. ((b, [], refl, e, tt), results_begin b)) (λ e1.
    of_test P (b == 123) _ _ (λ e. ([], ap (λ c. c ∷ []) (eqb-true b 123 e), tt)) (λ e2.
    of_test P (b == 59) _ _ (λ e. inl ([], ap (λ c. c ∷ []) (eqb-true b 59 e), tt)) (λ e3.
    of_test P (b == 37 && first) _ _ (λ e. let parts = and_parts (b == 37) first e in inr ([], ap (λ c. c ∷ []) (eqb-true b 37 parts.0), parts.1, tt)) (λ e4.
    of_test P (b == 34) _ _ (λ e. ([], ap (λ c. c ∷ []) (eqb-true b 34 e), tt)) (λ e5.
    of_test P (b == 36) _ _ (λ e. ([], ap (λ c. c ∷ []) (eqb-true b 36 e), tt)) (λ e6.
    of_test P (b == 33) _ _ (λ e. inl (ap (λ c. c ∷ []) (eqb-true b 33 e))) (λ e7.
    of_test P (b == 63) _ _ (λ e. inr (ap (λ c. c ∷ []) (eqb-true b 63 e))) (λ e8.
    of_test P (b == 45) _ _ (λ e. ap (λ c. c ∷ []) (eqb-true b 45 e)) (λ e9.
    λ rest. skip (is_ascii_alphanumeric b) _ _ _ e1 (skip (b == 123) _ _ _ e2
    (skip (b == 59) _ _ _ e3 (skip (b == 37 && first) _ _ _ e4
    (skip (b == 34) _ _ _ e5 (skip (b == 36) _ _ _ e6 (skip (b == 33) _ _ _ e7 (skip (b == 63) _ _ _ e8 (skip (b == 45) _ _ _ e9 refl))))))))
    )))))))))

pub opens_lexeme : (first : Bool) (b : ℕ) (s : State) → begun first b ≡ Some s → IsOpen first s (b ∷ [])
unfolding Begins
opens_lexeme first b s is = subst (Begins first b) is (begins first b)

alone_read : (first : Bool) (b : ℕ) (rest : List ℕ) → begun first b ≡ None → reading first b rest ≡ single b
unfolding Begins
alone_read first b rest none = (subst (Begins first b) none (begins first b)) rest

single_is : (b : ℕ) → single b ≡ record { kind = (single b).kind; len = 1 }
unfolding single
single_is b =
    let P : Reading → Type 0 = λ q. q ≡ record { kind = q.kind; len = 1 } in
    of_test P (b == 91) _ _ (λ e. refl) (λ e. of_test P (b == 93) _ _ (λ e. refl) (λ e. of_test P (b == 40) _ _ (λ e. refl) (λ e. of_test P (b == 41) _ _ (λ e. refl)
    (λ e. of_test P (b == 46) _ _ (λ e. refl) (λ e. of_test P (b == 42) _ _ (λ e. refl) (λ e. refl))))))

other_byte : (b c : ℕ) → (c == 42) ≡ false → (b == c) ≡ true → (b == 42) ≡ false
other_byte b c apart is = ap (λ x. x == 42) (eqb-true b c is) ∙ apart

single_marks : (b : ℕ) → (b == 42) ≡ marks (single b).kind (b ∷ [])
unfolding single
single_marks b =
    let P : Reading → Type 0 = λ q. (b == 42) ≡ marks q.kind (b ∷ []) in
    of_test P (b == 91) _ _ (λ e. other_byte b 91 refl e) (λ _. of_test P (b == 93) _ _ (λ e. other_byte b 93 refl e) (λ _. of_test P (b == 40) _ _ (λ e. other_byte b 40 refl e)
    (λ _. of_test P (b == 41) _ _ (λ e. other_byte b 41 refl e) (λ _. of_test P (b == 46) _ _ (λ e. other_byte b 46 refl e) (λ _. of_test P (b == 42) _ _ (λ e. e) (λ e. e))))))

module _ (follow : LexemesFollow) (alone : StandsAlone) (before : StaysBefore) where
  -- bytes of which the reading is known are one lexeme
  by_reading : (first : Bool) (b : ℕ) (bs : List ℕ) (asked read : LexemeKind) (marker : Bool) (Before : List ℕ → Type 0) → is_white b ≡ false → AreAlike asked read → marker ≡ marks read (b ∷ bs)
      → ((rest : List ℕ) → Before rest → reading first b (bs ++ rest) ≡ record { kind = read; len = length (b ∷ bs) }) → IsOneLexeme first (b ∷ bs) asked marker Before
  by_reading first b bs asked read marker Before dark alike marked reads = record {
    read = read;
    alike = alike;
    marked = marked;
    next = λ at rest ends.
        let n : ℕ = length (b ∷ bs) in
        follow at first b (bs ++ rest) dark
        ∙ ap (λ (q : Reading). (record { at = at; first = first; text = take q.len (b ∷ bs ++ rest); kind = q.kind })
        ∷ lexemes (at + q.len) (first_at first (b ∷ bs ++ rest) q.len) (drop q.len (b ∷ bs ++ rest))) (reads rest ends)
        ∙ ap₂ (λ t l. (record { at = at; first = first; text = t; kind = read }) ∷ lexemes (at + n) (first_at first (b ∷ bs ++ rest) n) l)
        (take-append_seam (b ∷ bs) rest) (drop-append_seam (b ∷ bs) rest)
        ∙ ap (λ col. (record { at = at; first = first; text = b ∷ bs; kind = read }) ∷ lexemes (at + n) col rest) (column_in first b bs rest);
  }

  -- by the grammar, if the bytes before which it ends don't continue it
  by_grammar : (first : Bool) (bytes : List ℕ) (asked kind : LexemeKind) (marker : Bool) (Before : List ℕ → Type 0) → IsLexeme first kind bytes → 0 < length bytes → (kind ≡ Token BadByte → ⊥)
      → AreAlike asked kind → marker ≡ marks kind bytes → ((rest : List ℕ) → Before rest → IsEndedBy kind rest) → IsOneLexeme first bytes asked marker Before
  by_grammar first [] asked kind marker Before is some no_ alike marked ends = absurd (omega (arith, some))
  by_grammar first (b ∷ bs) asked kind marker Before is some no_ alike marked ends =
      let whole = alone first kind b bs is no_ in
      by_reading first b bs asked kind marker Before whole.dark alike marked (λ rest e. before first kind b bs rest whole (ends rest e))

  ends_by_reading : (first : Bool) (b : ℕ) (bs : List ℕ) (asked read : LexemeKind) (marker : Bool) (Before : List ℕ → Type 0) → is_white b ≡ false → AreAlike asked read → marker ≡ marks read (b ∷ bs)
      → ((rest : List ℕ) → Before rest → reading first b (bs ++ rest) ≡ record { kind = read; len = length (b ∷ bs) }) → Before []
      → is_left_open read ≡ true → EndsAs first (b ∷ bs) asked marker Before
  ends_by_reading first b bs asked read marker Before dark alike marked reads none left =
      let here : reading first b bs ≡ record { kind = read; len = length (b ∷ bs) } = ap (reading first b) (sym (append-nil bs)) ∙ reads [] none in
      (by_reading first b bs asked read marker Before dark alike marked reads, (dark, ap (λ (q : Reading). q.len) here, ap (λ (q : Reading). is_left_open q.kind) here ∙ left))

  ends_by_grammar : (first : Bool) (bytes : List ℕ) (asked kind : LexemeKind) (marker : Bool) (Before : List ℕ → Type 0) → IsLexeme first kind bytes → 0 < length bytes → (kind ≡ Token BadByte → ⊥)
      → AreAlike asked kind → marker ≡ marks kind bytes → ((rest : List ℕ) → Before rest → IsEndedBy kind rest) → Before [] → is_left_open kind ≡ true → EndsAs first bytes asked marker Before
  ends_by_grammar first [] asked kind marker Before is some no_ alike marked ends none left = absurd (omega (arith, some))
  ends_by_grammar first (b ∷ bs) asked kind marker Before is some no_ alike marked ends none left =
      let whole = alone first kind b bs is no_ in
      ends_by_reading first b bs asked kind marker Before whole.dark alike marked (λ rest e. before first kind b bs rest whole (ends rest e)) none left

  -- an open lexeme ends before a byte that doesn't belong to it
  pub ends : (first : Bool) (s : State) (bytes : List ℕ) → IsOpen first s bytes → (s ≡ Between → ⊥) → EndsAs first bytes (kind_at_end s) (is_marker_at_end s (length bytes)) (EndsBefore s)
  ends first AtStart bytes is other = absurd is
  ends first OneOfMark bytes is other = absurd is
  ends first TwoOfMark bytes is other = absurd is
  ends first Between bytes is other = absurd (other refl)
  ends first InComment bytes is other =
      ends_by_grammar first bytes (Token UnclosedComment) (Token UnclosedComment) false (EndsBefore InComment) is (has_some 123 is.0 bytes is.1)
      (λ e. cc) (same_kind (Token UnclosedComment)) refl (ended InComment (Token UnclosedComment) (λ b. refl)) tt refl
  ends first InLine bytes is other =
      ⊎_elim
      (λ line. ends_by_grammar first bytes (Token LineComment) (Token LineComment) false (EndsBefore InLine) line (has_some 59 line.0 bytes line.1)
      (λ e. cc) (same_kind (Token LineComment)) refl (ended InLine (Token LineComment) (λ b. refl)) tt refl)
      (λ line. ends_by_grammar first bytes (Token LineComment) EscapeLine false (EndsBefore InLine) line (has_some 37 line.0 bytes line.1)
      (λ e. cc) lines_alike refl (ended InLine EscapeLine (λ b. refl)) tt refl)
      is
  ends first (InText backslash) bytes is other =
      ends_by_grammar first bytes (Token UnclosedText) (Token UnclosedText) false (EndsBefore (InText backslash))
      (is.0, is.1, part_of_text backslash is.0 is.2) (has_some 34 is.0 bytes is.1) (λ e. cc) (same_kind (Token UnclosedText)) refl
      (ended (InText backslash) (Token UnclosedText) (λ b. refl)) tt refl
  ends first (InSymbol r) bytes is other =
      ends_by_grammar first bytes (Token Symbol) (Token Symbol) (are_spelled r (length bytes)) (EndsBefore (InSymbol r)) is.0
      (has_some is.0.0 is.0.1 bytes is.0.2) (λ e. cc) (same_kind (Token Symbol)) (marker_is r bytes is.1) (ended (InSymbol r) (Token Symbol) (λ b. refl)) tt refl
  ends first InNumber bytes is other =
      subst (λ l. EndsAs first l (Token BadByte) false (EndsBefore InNumber)) (sym is.1)
      (ends_by_reading first 36 is.0 (Token BadByte) (number_kind is.0) false (EndsBefore InNumber) refl (number_alike is.0) (number_marks is.0)
      (λ rest e. number_read first is.0 rest is.2 e) tt (number_left is.0))
  ends first InSuffix bytes is other =
      ⊎_elim
      (λ good. subst (λ l. EndsAs first l (Token BadByte) false (EndsBefore InSuffix)) (sym good)
      (ends_by_reading first 33 [] (Token BadByte) (Token (Nag 1)) false (EndsBefore InSuffix) refl (bad_like_nag 1) refl (good_read first) tt refl))
      (λ poor. subst (λ l. EndsAs first l (Token BadByte) false (EndsBefore InSuffix)) (sym poor)
      (ends_by_reading first 63 [] (Token BadByte) (Token (Nag 2)) false (EndsBefore InSuffix) refl (bad_like_nag 2) refl (poor_read first) tt refl))
      is
  ends first InNull bytes is other =
      subst (λ l. EndsAs first l (Token BadByte) false (EndsBefore InNull)) (sym is)
      (ends_by_reading first 45 [] (Token BadByte) (Token BadByte) false (EndsBefore InNull) refl (same_kind (Token BadByte)) refl (hyphen_read first) tt refl)

  -- and with its last byte, whatever follows
  suffix_ends : (first : Bool) (a b : ℕ) (n : ℕ) → is_white a ≡ false
      → ((rest : List ℕ) → reading first a (b ∷ rest) ≡ record { kind = Token (Nag n); len = 2 }) → IsOneLexeme first (a ∷ b ∷ []) (Token Null) false (λ rest. Unit {0})
  suffix_ends first a b n dark reads = by_reading first a (b ∷ []) (Token Null) (Token (Nag n)) false (λ rest. Unit {0}) dark (null_like_nag n) refl (λ rest e. reads rest)

  pub ends_with : (first : Bool) (s : State) (bytes : List ℕ) (b : ℕ) → IsOpen first s bytes → takes s b ≡ true → finishes s b ≡ true
      → IsOneLexeme first (bytes ++ b ∷ []) (kind_with_last s) false (λ rest. Unit {0})
  unfolding reading good_suffix poor_suffix
  ends_with first AtStart bytes b is takes_ last = absurd is
  ends_with first OneOfMark bytes b is takes_ last = absurd is
  ends_with first TwoOfMark bytes b is takes_ last = absurd is
  ends_with first Between bytes b is takes_ last = absurd (false≢true last)
  ends_with first InComment bytes b is takes_ last =
      let text : bytes ++ b ∷ [] ≡ 123 ∷ is.0 ++ 125 ∷ [] = ap₂ (λ l c. l ++ c ∷ []) is.1 (eqb-true b 125 last) in
      by_grammar first (bytes ++ b ∷ []) (Token Comment) (Token Comment) false (λ rest. Unit {0}) (is.0, text, is.2)
      (has_some 123 (is.0 ++ 125 ∷ []) (bytes ++ b ∷ []) text) (λ e. cc) (same_kind (Token Comment)) refl (λ rest e. ended_always (Token Comment) (λ c. refl) rest)
  ends_with first InLine bytes b is takes_ last = absurd (false≢true last)
  ends_with first (InText true) bytes b is takes_ last = absurd (false≢true (and_parts (b == 34) false last).1)
  ends_with first (InText false) bytes b is takes_ last =
      let text : bytes ++ b ∷ [] ≡ 34 ∷ is.0 ++ 34 ∷ [] = ap₂ (λ l c. l ++ c ∷ []) is.1 (eqb-true b 34 (and_parts (b == 34) true last).0) in
      by_grammar first (bytes ++ b ∷ []) (Token Text) (Token Text) false (λ rest. Unit {0}) (is.0, text, is.2)
      (has_some 34 (is.0 ++ 34 ∷ []) (bytes ++ b ∷ []) text) (λ e. cc) (same_kind (Token Text)) refl (λ rest e. ended_always (Token Text) (λ c. refl) rest)
  ends_with first (InSymbol r) bytes b is takes_ last = absurd (false≢true last)
  ends_with first InNumber bytes b is takes_ last = absurd (false≢true last)
  ends_with first InSuffix bytes b is takes_ last =
      let As : List ℕ → Type 0 = λ l. IsOneLexeme first l (Token Null) false (λ rest. Unit {0}) in
      let byte : (b ≡ 33) ⊎ (b ≡ 63) = ⊎_elim (λ good. inl (eqb-true b 33 good)) (λ no_. inr (eqb-true b 63 (sym (ap (λ t. t || b == 63) no_) ∙ takes_))) (cases_Bool (b == 33)) in
      ⊎_elim
      (λ good. subst As (sym (ap (λ l. l ++ b ∷ []) good)) (⊎_elim
      (λ g. subst (λ c. As (33 ∷ c ∷ [])) (sym g) (suffix_ends first 33 33 3 refl (λ rest. refl)))
      (λ p. subst (λ c. As (33 ∷ c ∷ [])) (sym p) (suffix_ends first 33 63 5 refl (λ rest. refl))) byte))
      (λ poor. subst As (sym (ap (λ l. l ++ b ∷ []) poor)) (⊎_elim
      (λ g. subst (λ c. As (63 ∷ c ∷ [])) (sym g) (suffix_ends first 63 33 6 refl (λ rest. refl)))
      (λ p. subst (λ c. As (63 ∷ c ∷ [])) (sym p) (suffix_ends first 63 63 4 refl (λ rest. refl))) byte))
      is
  ends_with first InNull bytes b is takes_ last =
      let text : bytes ++ b ∷ [] ≡ codes "--" = ap₂ (λ l c. l ++ c ∷ []) is (eqb-true b 45 takes_) in
      by_grammar first (bytes ++ b ∷ []) (Token Null) (Token Null) false (λ rest. Unit {0}) text (has_some 45 (45 ∷ []) (bytes ++ b ∷ []) text)
      (λ e. cc) (same_kind (Token Null)) refl (λ rest e. ended_always (Token Null) (λ c. refl) rest)

  -- a byte that is a lexeme by itself
  pub stands_alone : (first : Bool) (b : ℕ) → is_white b ≡ false → begun first b ≡ None → IsOneLexeme first (b ∷ []) (reading first b []).kind (b == 42) (λ rest. Unit {0})
  stands_alone first b dark none =
      let here = alone_read first b [] none in
      by_reading first b [] (reading first b []).kind (single b).kind (b == 42) (λ rest. Unit {0}) dark
      (subst (λ (q : Reading). AreAlike q.kind (single b).kind) (sym here) (same_kind (single b).kind)) (single_marks b)
      (λ rest e. alone_read first b rest none ∙ single_is b)

  -- an open lexeme is unsettled
  pub unsettled : (first : Bool) (s : State) (bytes : List ℕ) → IsOpen first s bytes → IsUnsettled first bytes
  unsettled first AtStart bytes is = absurd is
  unsettled first OneOfMark bytes is = absurd is
  unsettled first TwoOfMark bytes is = absurd is
  unsettled first Between bytes is = subst (IsUnsettled first) (sym is) tt
  unsettled first InComment bytes is = (ends first InComment bytes is (λ e. cc)).1
  unsettled first InLine bytes is = (ends first InLine bytes is (λ e. cc)).1
  unsettled first (InText t) bytes is = (ends first (InText t) bytes is (λ e. cc)).1
  unsettled first (InSymbol r) bytes is = (ends first (InSymbol r) bytes is (λ e. cc)).1
  unsettled first InNumber bytes is = (ends first InNumber bytes is (λ e. cc)).1
  unsettled first InSuffix bytes is = (ends first InSuffix bytes is (λ e. cc)).1
  unsettled first InNull bytes is = (ends first InNull bytes is (λ e. cc)).1
