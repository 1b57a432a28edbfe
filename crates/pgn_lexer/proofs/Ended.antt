-- A lexeme is read whole before a byte that doesn't continue it.
use Rattle.std.proofs.Common.{◌≡◌, ◌≢◌, ℕ, suc, ◌+◌, ◌<◌, Bool, true, false, List, [], ◌∷◌, ◌++◌, length, get_or, take, drop, refl, sym, ap, ap₂, ◌∙◌, subst, inl, inr, ⊎_elim, arith, true≢false, length-append, append_assoc}
use Rattle.std.specs.Prelude.{not, ◌&&◌, ◌||◌, ◌==◌, min}
use Rattle.std.specs.List.{AllByRecursion}
use Rattle.std.specs.Char.{is_ascii_digit, is_ascii_alphanumeric}
use Rattle.std.specs.Str.Parse.{digits_value}
use Rattle.std.proofs.Math.Seq.{take-append_seam, drop-append_seam}
use Rattle.std.proofs.lemmas.Bool.{cases_lt, agree_below_at}
use Rattle.std.proofs.lemmas.Bool.Decides.{nat_tests}
use Rattle.std.proofs.lemmas.List.{take_all, take-take, length-take-le, append-nil, get_or_append_left}
use Rattle.cq_common.specs.Text.{is_white}
use Rattle.pgn_lexer.specs.Bytes.{ends_line, continues_symbol}
use Rattle.pgn_lexer.specs.Grammar.{Lacks, IsBody, IsSuffix, IsLexeme}
use Rattle.pgn_lexer.specs.Lexemes.{lexemes, first_at}
use Rattle.pgn_lexer.specs.Readings.{reading, nag, null_move}
use Rattle.pgn_lexer.specs.SingleLexeme.{goes_on, runs_on, IsEndedBy, IsReadWhole}
use Rattle.pgn_lexer.specs.declared.token.Reading.{Reading}
use Rattle.pgn_lexer.specs.declared.token.LexemeKind.{LexemeKind}
use Rattle.pgn_lexer.specs.declared.token.LexemeKind.TheVariants.{EscapeLine, Token}
use Rattle.pgn_lexer.specs.declared.token.TokenKind.TheVariants.{Open, Close, Text, Symbol, Period, Star, LeftParen, RightParen, Nag, Null, Comment, LineComment, BadByte, UnclosedComment, UnclosedText}
use Rattle.pgn_lexer.proofs.Bodies.{IsUnfinished}
use Rattle.pgn_lexer.proofs.Longest.{is_longest}
use Rattle.pgn_lexer.proofs.Settled.{lexeme_front, unfinished_front, grows}
use Rattle.pgn_lexer.proofs.Walk.{over_lexeme}

-- white space continues no symbol and no number
white_never : (t : ℕ → Bool) (b : ℕ) → ((c : ℕ) → c < 33 → (is_white c && t c) ≡ false) → is_white b ≡ true → t b ≡ false
white_never t b never white =
    let small : b < 33 = grind (arith, nat_tests) in
    sym (ap (λ w. w && t b) white) ∙ never b small

pub white_ends : (kind : LexemeKind) (b : ℕ) → is_white b ≡ true → runs_on kind ≡ false → goes_on kind b ≡ false
white_ends EscapeLine b white no_ = absurd (true≢false no_)
white_ends (Token Open) b white no_ = refl
white_ends (Token Close) b white no_ = refl
white_ends (Token Text) b white no_ = refl
white_ends (Token Symbol) b white no_ = white_never continues_symbol b (λ c less. agree_below_at (λ x. is_white x && continues_symbol x) (λ _. false) 33 c refl less) white
white_ends (Token Period) b white no_ = refl
white_ends (Token Star) b white no_ = refl
white_ends (Token LeftParen) b white no_ = refl
white_ends (Token RightParen) b white no_ = refl
white_ends (Token (Nag n)) b white no_ = white_never (goes_on (Token (Nag n))) b (λ c less. agree_below_at (λ x. is_white x && goes_on (Token (Nag n)) x) (λ _. false) 33 c refl less) white
white_ends (Token Null) b white no_ = refl
white_ends (Token Comment) b white no_ = refl
white_ends (Token LineComment) b white no_ = absurd (true≢false no_)
white_ends (Token BadByte) b white no_ = white_never (goes_on (Token BadByte)) b (λ c less. agree_below_at (λ x. is_white x && goes_on (Token BadByte) x) (λ _. false) 33 c refl less) white
white_ends (Token UnclosedComment) b white no_ = absurd (true≢false no_)
white_ends (Token UnclosedText) b white no_ = absurd (true≢false no_)

-- no lexeme begins with white space, but for a bad byte
dark_byte : (b c : ℕ) → b ≡ c → is_white c ≡ false → is_white b ≡ false
dark_byte b c same dark = ap is_white same ∙ dark

dark_alphanumeric : (b : ℕ) → is_ascii_alphanumeric b ≡ true → is_white b ≡ false
dark_alphanumeric b is = grind (arith, nat_tests)

dark_suffix : (n b : ℕ) (bs : List ℕ) → IsSuffix n (b ∷ bs) → is_white b ≡ false
dark_suffix n b bs suffix =
    let head : (c : ℕ) (cs : List ℕ) → b ∷ bs ≡ c ∷ cs → b ≡ c = λ c cs e. ap (λ l. get_or l 0 0) e in
    ⊎_elim (λ h. dark_byte b 33 (head 33 [] h.1) refl)
    (⊎_elim (λ h. dark_byte b 63 (head 63 [] h.1) refl)
    (⊎_elim (λ h. dark_byte b 33 (head 33 (33 ∷ []) h.1) refl)
    (⊎_elim (λ h. dark_byte b 63 (head 63 (63 ∷ []) h.1) refl)
    (⊎_elim (λ h. dark_byte b 33 (head 33 (63 ∷ []) h.1) refl)
    (λ h. dark_byte b 63 (head 63 (33 ∷ []) h.1) refl))))) suffix

dark_lexeme : (first : Bool) (kind : LexemeKind) (b : ℕ) (bs : List ℕ) → IsLexeme first kind (b ∷ bs) → (kind ≡ Token BadByte → ⊥) → is_white b ≡ false
dark_lexeme first EscapeLine b bs h no_ = dark_byte b 37 (ap (λ l. get_or l 0 0) h.1) refl
dark_lexeme first (Token Open) b bs h no_ = dark_byte b 91 (ap (λ l. get_or l 0 0) h) refl
dark_lexeme first (Token Close) b bs h no_ = dark_byte b 93 (ap (λ l. get_or l 0 0) h) refl
dark_lexeme first (Token Text) b bs h no_ = dark_byte b 34 (ap (λ l. get_or l 0 0) h.1) refl
dark_lexeme first (Token Symbol) b bs h no_ = let same : b ≡ h.0 = ap (λ l. get_or l 0 0) h.2 in ap is_white same ∙ dark_alphanumeric h.0 h.3
dark_lexeme first (Token Period) b bs h no_ = dark_byte b 46 (ap (λ l. get_or l 0 0) h) refl
dark_lexeme first (Token Star) b bs h no_ = dark_byte b 42 (ap (λ l. get_or l 0 0) h) refl
dark_lexeme first (Token LeftParen) b bs h no_ = dark_byte b 40 (ap (λ l. get_or l 0 0) h) refl
dark_lexeme first (Token RightParen) b bs h no_ = dark_byte b 41 (ap (λ l. get_or l 0 0) h) refl
dark_lexeme first (Token (Nag n)) b bs h no_ = ⊎_elim (λ numbered. dark_byte b 36 (ap (λ l. get_or l 0 0) numbered.1) refl) (λ suffix. dark_suffix n b bs suffix) h
dark_lexeme first (Token Null) b bs h no_ = dark_byte b 45 (ap (λ l. get_or l 0 0) h) refl
dark_lexeme first (Token Comment) b bs h no_ = dark_byte b 123 (ap (λ l. get_or l 0 0) h.1) refl
dark_lexeme first (Token LineComment) b bs h no_ = dark_byte b 59 (ap (λ l. get_or l 0 0) h.1) refl
dark_lexeme first (Token BadByte) b bs h no_ = absurd (no_ refl)
dark_lexeme first (Token UnclosedComment) b bs h no_ = dark_byte b 123 (ap (λ l. get_or l 0 0) h.1) refl
dark_lexeme first (Token UnclosedText) b bs h no_ = dark_byte b 34 (ap (λ l. get_or l 0 0) h.1) refl

-- a lexeme alone is read whole
pub alone : (first : Bool) (kind : LexemeKind) (b : ℕ) (bs : List ℕ) → IsLexeme first kind (b ∷ bs) → (kind ≡ Token BadByte → ⊥) → IsReadWhole first kind b bs
alone first kind b bs h no_ =
    let r = reading first b bs in
    let longest = is_longest first b bs in
    let n : ℕ = length (b ∷ bs) in
    let whole : take n (b ∷ bs) ≡ b ∷ bs = take_all n (b ∷ bs) (omega arith) in
    let most = longest.longest kind n (omega arith) (subst (IsLexeme first kind) (sym whole) h) in
    let fits = longest.within in
    let len : r.len ≡ n = omega arith in
    let same : r.kind ≡ kind = longest.only kind no_ (subst (λ m. IsLexeme first kind (take m (b ∷ bs))) (sym len) (subst (IsLexeme first kind) (sym whole) h)) in
    record { dark = dark_lexeme first kind b bs h no_; reads = ap₂ (λ k m. record { kind = k; len = m }) same len }

-- a property of each element before a last one, and of that one, holds of all
all_front : {A : Type 0} (P : A → Type 0) (xs : List A) (y : A) → AllByRecursion P (xs ++ y ∷ []) → AllByRecursion P xs
all_front P [] y all = tt
all_front P (x ∷ xs) y all = (all.0, all_front P xs y all.1)

all_last : {A : Type 0} (P : A → Type 0) (xs : List A) (y : A) → AllByRecursion P (xs ++ y ∷ []) → P y
all_last P [] y all = all.0
all_last P (x ∷ xs) y all = all_last P xs y all.1

-- the last elements of equal lists
same_front : (xs ys : List ℕ) (x y : ℕ) → xs ++ x ∷ [] ≡ ys ++ y ∷ [] → (xs ≡ ys) × (x ≡ y)
same_front [] [] x y e = (refl, ap (λ l. get_or l 0 0) e)
same_front [] (z ∷ zs) x y e = let n = ap length e in let m = length-append zs (y ∷ []) in absurd (omega arith)
same_front (z ∷ zs) [] x y e = let n = ap length e in let m = length-append zs (x ∷ []) in absurd (omega arith)
same_front (z ∷ zs) (w ∷ ws) x y e =
    let more = same_front zs ws x y (ap (drop 1) e) in
    (ap₂ (λ a l. a ∷ l) (ap (λ l. get_or l 0 0) e) more.0, more.1)

-- an unfinished string doesn't end with LF
body_last : (bs : List ℕ) (c : ℕ) → IsBody (bs ++ c ∷ []) → c ≢ 10
body_last [] c body = body.2
body_last (x ∷ []) c body = ⊎_elim (λ plain. plain.1.2) (λ escaped. escaped.1) body
body_last (x ∷ y ∷ ys) c body = ⊎_elim (λ plain. body_last (y ∷ ys) c plain.1) (λ escaped. body_last ys c escaped.2) body

unfinished_last : (bs : List ℕ) (c : ℕ) → IsUnfinished (bs ++ c ∷ []) → c ≢ 10
unfinished_last bs c = ⊎_elim (λ whole. body_last bs c whole) (λ cut.
    let last = (same_front bs cut.0 c 92 cut.1).1 in λ is. absurd (omega arith))

no_line : (c : ℕ) → c ≢ 10 → not (ends_line c) ≡ true
no_line c other = grind (arith, nat_tests)

-- if a lexeme has one more byte, that byte continues the reading of the bytes before it
module _ (first : Bool) (b c : ℕ) (bs : List ℕ) (k : LexemeKind) (reads : reading first b bs ≡ record { kind = k; len = length (b ∷ bs) }) where
  by_kind : (other : LexemeKind) → (other ≡ Token BadByte → ⊥) → IsLexeme first other (b ∷ bs) → goes_on other c ≡ true → goes_on k c ≡ true
  by_kind other no_ h goes =
      let whole : take (length (b ∷ bs)) (b ∷ bs) ≡ b ∷ bs = take_all (length (b ∷ bs)) (b ∷ bs) (omega arith) in
      let same = (is_longest first b bs).only other no_ (subst (λ (r : Reading). IsLexeme first other (take r.len (b ∷ bs))) (sym reads) (subst (IsLexeme first other) (sym whole) h)) in
      ap (λ x. goes_on x c) (sym (ap (λ (r : Reading). r.kind) reads) ∙ same) ∙ goes

  long : length (b ∷ bs ++ c ∷ []) ≡ length bs + 2
  long = let e = length-append bs (c ∷ []) in omega arith

  too_long : (x : ℕ) → b ∷ bs ++ c ∷ [] ≡ x ∷ [] → goes_on k c ≡ true
  too_long x e = let n = ap length e in let m = long in absurd (omega arith)

  -- the text is also its first byte and the bytes after it, of which c is the last
  rest_is : (x : ℕ) (xs : List ℕ) → b ∷ bs ++ c ∷ [] ≡ x ∷ xs → (b ≡ x) × (xs ≡ bs ++ c ∷ [])
  rest_is x xs e = (ap (λ l. get_or l 0 0) e, sym (ap (drop 1) e))

  -- by the kind of the longer one
  goes_suffix : (n x y : ℕ) → b ∷ bs ++ c ∷ [] ≡ x ∷ y ∷ [] → IsSuffix n (x ∷ []) → (goes_on (Token (Nag n)) y ≡ true) → goes_on k c ≡ true
  goes_suffix n x y e one goes =
      let parts = rest_is x (y ∷ []) e in
      let last = same_front bs [] c y (sym parts.1) in
      by_kind (Token (Nag n)) (λ bad. cc) (inr (subst (IsSuffix n) (ap₂ (λ a l. a ∷ l) (sym parts.0) (sym last.0)) one)) (ap (goes_on (Token (Nag n))) last.1 ∙ goes)

  suffix_goes : (n : ℕ) → IsSuffix n (b ∷ bs ++ c ∷ []) → goes_on k c ≡ true
  suffix_goes n suffix =
      ⊎_elim (λ h. too_long 33 h.1)
      (⊎_elim (λ h. too_long 63 h.1)
      (⊎_elim (λ h. goes_suffix 1 33 33 h.1 (inl (refl, refl)) refl)
      (⊎_elim (λ h. goes_suffix 2 63 63 h.1 (inr (inl (refl, refl))) refl)
      (⊎_elim (λ h. goes_suffix 1 33 63 h.1 (inl (refl, refl)) refl)
      (λ h. goes_suffix 2 63 33 h.1 (inr (inl (refl, refl))) refl))))) suffix

  -- a byte that may begin a longer lexeme, and is a bad one alone
  bad_alone : (x : ℕ) → b ≡ x → bs ≡ [] → reading first x [] ≡ record { kind = Token BadByte; len = 1 } → goes_on (Token BadByte) c ≡ true → goes_on k c ≡ true
  bad_alone x b_is bs_is bad goes =
      let same : record { kind = k; len = length (b ∷ bs) } ≡ record { kind = Token BadByte; len = 1 } = sym reads ∙ ap₂ (reading first) b_is bs_is ∙ bad in
      ap (λ (r : Reading). goes_on r.kind c) same ∙ goes

  -- `$` and digits
  numbered_goes : (digits rest : List ℕ) → rest ≡ bs → b ≡ 36 → digits ≡ rest ++ c ∷ [] → AllByRecursion (λ d. is_ascii_digit d ≡ true) digits → goes_on k c ≡ true
  unfolding reading nag
  numbered_goes digits [] rest_is_ b_is split all =
      let digit : is_ascii_digit c ≡ true = all_last (λ d. is_ascii_digit d ≡ true) [] c (subst (AllByRecursion (λ d. is_ascii_digit d ≡ true)) split all) in
      bad_alone 36 b_is (sym rest_is_) refl (ap (λ t. t || c == 45) digit)
  numbered_goes digits (d ∷ ds) rest_is_ b_is split all =
      let each = subst (AllByRecursion (λ x. is_ascii_digit x ≡ true)) split all in
      let digit : is_ascii_digit c ≡ true = all_last (λ x. is_ascii_digit x ≡ true) (d ∷ ds) c each in
      by_kind (Token (Nag (min 256 (digits_value 10 (d ∷ ds))))) (λ bad. cc)
      (inl (d ∷ ds, ap₂ (λ a l. a ∷ l) b_is (sym rest_is_), omega arith, all_front (λ x. is_ascii_digit x ≡ true) (d ∷ ds) c each, refl))
      (ap (λ t. t || c == 33 || c == 63) digit)

  goes : (longer : LexemeKind) → IsLexeme first longer (b ∷ bs ++ c ∷ []) → goes_on k c ≡ true
  unfolding reading null_move
  goes EscapeLine h =
      let parts = rest_is 37 h.0 h.1 in
      let lacks = subst (Lacks 10) parts.1 h.3 in
      by_kind EscapeLine (λ bad. cc) (bs, ap (λ a. a ∷ bs) parts.0, h.2, all_front (λ x. x ≢ 10) bs c lacks) (no_line c (all_last (λ x. x ≢ 10) bs c lacks))
  goes (Token Open) h = too_long 91 h
  goes (Token Close) h = too_long 93 h
  goes (Token Text) h =
      let parts = rest_is 34 (h.0 ++ 34 ∷ []) h.1 in
      let last = same_front h.0 bs 34 c parts.1 in
      by_kind (Token UnclosedText) (λ bad. cc) (bs, ap (λ a. a ∷ bs) parts.0, inl (subst IsBody last.0 h.2)) (ap (λ x. not (ends_line x)) (sym last.1))
  goes (Token Symbol) h =
      let parts = rest_is h.0 h.1 h.2 in
      let all = subst (AllByRecursion (λ x. continues_symbol x ≡ true)) parts.1 h.4 in
      by_kind (Token Symbol) (λ bad. cc) (b, bs, refl, ap is_ascii_alphanumeric parts.0 ∙ h.3, all_front (λ x. continues_symbol x ≡ true) bs c all) (all_last (λ x. continues_symbol x ≡ true) bs c all)
  goes (Token Period) h = too_long 46 h
  goes (Token Star) h = too_long 42 h
  goes (Token LeftParen) h = too_long 40 h
  goes (Token RightParen) h = too_long 41 h
  goes (Token (Nag n)) h = ⊎_elim
      (λ numbered. let parts = rest_is 36 numbered.0 numbered.1 in numbered_goes numbered.0 bs refl parts.0 parts.1 numbered.3)
      (λ suffix. suffix_goes n suffix)
      h
  goes (Token Null) h =
      let parts = rest_is 45 (45 ∷ []) h in
      let last = same_front [] bs 45 c parts.1 in
      bad_alone 45 parts.0 (sym last.0) refl (ap (goes_on (Token BadByte)) (sym last.1))
  goes (Token Comment) h =
      let parts = rest_is 123 (h.0 ++ 125 ∷ []) h.1 in
      let last = same_front h.0 bs 125 c parts.1 in
      by_kind (Token UnclosedComment) (λ bad. cc) (bs, ap (λ a. a ∷ bs) parts.0, subst (Lacks 125) last.0 h.2) refl
  goes (Token LineComment) h =
      let parts = rest_is 59 h.0 h.1 in
      let lacks = subst (Lacks 10) parts.1 h.2 in
      by_kind (Token LineComment) (λ bad. cc) (bs, ap (λ a. a ∷ bs) parts.0, all_front (λ x. x ≢ 10) bs c lacks) (no_line c (all_last (λ x. x ≢ 10) bs c lacks))
  goes (Token BadByte) h = let m = long in absurd (omega arith)
  goes (Token UnclosedComment) h =
      let parts = rest_is 123 h.0 h.1 in
      by_kind (Token UnclosedComment) (λ bad. cc) (bs, ap (λ a. a ∷ bs) parts.0, all_front (λ x. x ≢ 125) bs c (subst (Lacks 125) parts.1 h.2)) refl
  goes (Token UnclosedText) h =
      let parts = rest_is 34 h.0 h.1 in
      let unfinished = subst IsUnfinished parts.1 h.2 in
      let n = length-append bs (c ∷ []) in
      let before : IsUnfinished (take (length bs) (bs ++ c ∷ [])) = unfinished_front (length bs) (bs ++ c ∷ []) (omega arith) unfinished in
      by_kind (Token UnclosedText) (λ bad. cc) (bs, ap (λ a. a ∷ bs) parts.0, subst IsUnfinished (take-append_seam bs (c ∷ [])) before) (no_line c (unfinished_last bs c unfinished))

-- so a lexeme is read whole before a byte that doesn't
pub before : (first : Bool) (kind : LexemeKind) (b : ℕ) (bs more : List ℕ) → reading first b bs ≡ record { kind = kind; len = length (b ∷ bs) } → IsEndedBy kind more
    → reading first b (bs ++ more) ≡ record { kind = kind; len = length (b ∷ bs) }
before first kind b bs [] reads ended = ap (reading first b) (append-nil bs) ∙ reads
before first kind b bs (c ∷ more) reads ended =
    let r = reading first b (bs ++ c ∷ more) in
    let m : ℕ = suc (suc (length bs)) in
    let text : List ℕ = b ∷ bs ++ c ∷ more in
    let size : length text ≡ suc (length bs + suc (length more)) = ap suc (length-append bs (c ∷ more)) in
    ⊎_elim
    (λ longer.
    let within = (is_longest first b (bs ++ c ∷ more)).within in
    let taken : length (take r.len text) ≡ r.len = length-take-le r.len text within in
    let split : text ≡ (b ∷ bs ++ c ∷ []) ++ more = sym (append_assoc (b ∷ bs) (c ∷ []) more) in
    let two : m ≡ length (b ∷ bs ++ c ∷ []) = let e = length-append bs (c ∷ []) in omega arith in
    let front : take m text ≡ b ∷ bs ++ c ∷ [] = ap₂ take two split ∙ take-append_seam (b ∷ bs ++ c ∷ []) more in
    let part : take m (take r.len text) ≡ b ∷ bs ++ c ∷ [] = take-take m r.len text (omega arith) ∙ front in
    let some = lexeme_front first r.kind (take r.len text) m (omega arith) (omega arith) (is_longest first b (bs ++ c ∷ more)).reads in
    absurd (true≢false (sym (goes first b c bs kind reads some.0 (subst (IsLexeme first some.0) part some.1)) ∙ ended)))
    (λ fits. (grows first b bs (c ∷ more)).same fits ∙ reads)
    (cases_lt (length (b ∷ bs)) r.len)

-- the column after a text, within a longer one
column_in : (first : Bool) (b : ℕ) (bs more : List ℕ) → first_at first (b ∷ bs ++ more) (length (b ∷ bs)) ≡ first_at first (b ∷ bs) (length (b ∷ bs))
column_in first b bs more = ap ends_line (get_or_append_left (b ∷ bs) more 0 (length bs) (omega arith))

-- and it is the first lexeme
pub next : (at : ℕ) (first : Bool) (kind : LexemeKind) (b : ℕ) (bs more : List ℕ) → IsReadWhole first kind b bs → IsEndedBy kind more
    → lexemes at first (b ∷ bs ++ more) ≡ (record { at = at; first = first; text = b ∷ bs; kind = kind }) ∷ lexemes (at + length (b ∷ bs)) (first_at first (b ∷ bs) (length (b ∷ bs))) more
next at first kind b bs more whole ended =
    let n : ℕ = length (b ∷ bs) in
    let r : Reading = record { kind = kind; len = n } in
    over_lexeme b (bs ++ more) at first whole.dark
    ∙ ap (λ (q : Reading). (record { at = at; first = first; text = take q.len (b ∷ bs ++ more); kind = q.kind })
    ∷ lexemes (at + q.len) (first_at first (b ∷ bs ++ more) q.len) (drop q.len (b ∷ bs ++ more))) (before first kind b bs more whole.reads ended)
    ∙ ap₂ (λ t l. (record { at = at; first = first; text = t; kind = kind }) ∷ lexemes (at + n) (first_at first (b ∷ bs ++ more) n) l) (take-append_seam (b ∷ bs) more) (drop-append_seam (b ∷ bs) more)
    ∙ ap (λ col. (record { at = at; first = first; text = b ∷ bs; kind = kind }) ∷ lexemes (at + n) col more) (column_in first b bs more)
