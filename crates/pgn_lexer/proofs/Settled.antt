-- The lexemes of a front that stay, whatever follows it.
use Rattle.std.proofs.Common.{◌≡◌, ℕ, zero, suc, ◌+◌, ◌-◌, ◌<◌, ◌≤◌, Bool, true, false, cond, List, [], ◌∷◌, ◌++◌, length, get_or, take, drop, refl, sym, ap, ap₂, ◌∙◌, subst, inl, inr, ⊎_elim, arith, true≢false, add-zero, min}
use Rattle.std.specs.Prelude.{◌≢◌}
use Rattle.std.specs.List.{AllByRecursion}
use Rattle.std.specs.Char.{is_ascii_digit}
use Rattle.std.specs.Str.Parse.{digits_value}
use Rattle.std.proofs.lemmas.Bool.{cases_lt, cases_Bool}
use Rattle.std.proofs.lemmas.List.{take_all, take-append-le, take-take, length-take-le, length-append, append_assoc}
use Rattle.pgn_lexer.specs.Bytes.{ends_line, continues_symbol}
use Rattle.cq_common.specs.Text.{is_white}
use Rattle.pgn_lexer.specs.Grammar.{IsBody, IsSuffix, IsLexeme}
use Rattle.pgn_lexer.specs.Readings.{reading, single}
use Rattle.pgn_lexer.specs.declared.token.LexemeKind.{LexemeKind}
use Rattle.pgn_lexer.specs.declared.token.LexemeKind.TheVariants.{EscapeLine, Token}
use Rattle.pgn_lexer.specs.declared.token.TokenKind.TheVariants.{Open, Close, Text, Symbol, Period, Star, LeftParen, RightParen, Nag, Null, Comment, LineComment, BadByte, UnclosedComment, UnclosedText}
use Rattle.pgn_lexer.specs.Lexemes.{Lexeme, lexeme, lexemes_from, first_at}
use Rattle.pgn_lexer.specs.Locality.{is_left_open, IsUnsettled, Settles, Grows}
use Rattle.pgn_lexer.proofs.Bodies.{IsUnfinished, plain_unfinished, escaped_unfinished}
use Rattle.pgn_lexer.proofs.Fronts.{reading_same}
use Rattle.pgn_lexer.proofs.Walk.{first_at-cons}
use Rattle.pgn_lexer.proofs.Within.{reading_within}
use Rattle.pgn_lexer.proofs.Longest.{is_longest}

-- all of a list is all of its fronts
all_take : {A : Type 0} (P : A → Type 0) (n : ℕ) (xs : List A) → AllByRecursion P xs → AllByRecursion P (take n xs)
all_take P zero [] all = tt
all_take P (suc n) [] all = tt
all_take P zero (x ∷ xs) all = tt
all_take P (suc n) (x ∷ xs) all = (all.0, all_take P n xs all.1)

-- a front of a string's body is a body, but that its last backslash may take nothing
body_front : (n : ℕ) (body : List ℕ) → IsBody body → IsUnfinished (take n body)
body_front zero [] whole = inl tt
body_front zero (b ∷ bs) whole = inl tt
body_front (suc n) [] whole = inl tt
body_front (suc zero) (b ∷ []) whole = inl whole
body_front (suc (suc n)) (b ∷ []) whole = inl whole
body_front (suc zero) (b ∷ c ∷ bs) whole =
    ⊎_elim (λ plain. inl plain.0) (λ escaped. inr ([], ap (λ x. x ∷ []) escaped.0, tt)) whole
body_front (suc (suc n)) (b ∷ c ∷ bs) whole =
    ⊎_elim (λ plain. plain_unfinished b (c ∷ take n bs) plain.0 (body_front (suc n) (c ∷ bs) plain.1))
    (λ escaped. subst (λ x. IsUnfinished (x ∷ c ∷ take n bs)) (sym escaped.0) (escaped_unfinished c (take n bs) escaped.1 (body_front n bs escaped.2)))
    whole

pub unfinished_front : (n : ℕ) (body : List ℕ) → n < length body → IsUnfinished body → IsUnfinished (take n body)
unfinished_front n body less = ⊎_elim (λ whole. body_front n body whole) (λ cut.
    let size : length body ≡ length cut.0 + 1 = ap length cut.1 ∙ length-append cut.0 (92 ∷ []) in
    let same : take n body ≡ take n cut.0 = ap (take n) cut.1 ∙ take-append-le n cut.0 (92 ∷ []) (omega arith) in
    subst IsUnfinished (sym same) (body_front n cut.0 cut.2))

suffix_short : (g : ℕ) (text : List ℕ) → IsSuffix g text → length text ≤ 2
suffix_short g text =
    ⊎_elim (λ h. let e = ap length h.1 in omega arith) (λ h.
    ⊎_elim (λ h. let e = ap length h.1 in omega arith) (λ h.
    ⊎_elim (λ h. let e = ap length h.1 in omega arith) (λ h.
    ⊎_elim (λ h. let e = ap length h.1 in omega arith) (λ h.
    ⊎_elim (λ h. let e = ap length h.1 in omega arith) (λ h. let e = ap length h.1 in omega arith) h) h) h) h)

-- a text is a lexeme of some kind
abbrev pub IsSome : Bool → List ℕ → Type 0
IsSome first text = (kind : LexemeKind) × IsLexeme first kind text

-- a front of a lexeme, of two bytes at least, is one too
inner_front : (first : Bool) (kind : LexemeKind) (text : List ℕ) (n : ℕ) → suc (suc n) < length text → IsLexeme first kind text → IsSome first (take (suc (suc n)) text)
inner_front first EscapeLine text n less h =
    subst (λ t. IsSome first (take (suc (suc n)) t)) (sym h.1) (EscapeLine, (take (suc n) h.0, refl, h.2, all_take (λ b. b ≢ 10) (suc n) h.0 h.3))
inner_front first (Token Open) text n less h = let e = ap length h in absurd (omega arith)
inner_front first (Token Close) text n less h = let e = ap length h in absurd (omega arith)
inner_front first (Token Text) text n less h =
    let size : length text ≡ suc (length h.0 + 1) = ap length h.1 ∙ ap suc (length-append h.0 (34 ∷ [])) in
    let same : take (suc n) (h.0 ++ 34 ∷ []) ≡ take (suc n) h.0 = take-append-le (suc n) h.0 (34 ∷ []) (omega arith) in
    subst (λ t. IsSome first (take (suc (suc n)) t)) (sym h.1) (Token UnclosedText, (take (suc n) h.0, ap (λ l. 34 ∷ l) same, body_front (suc n) h.0 h.2))
inner_front first (Token Symbol) text n less h =
    subst (λ t. IsSome first (take (suc (suc n)) t)) (sym h.2) (Token Symbol, (h.0, take (suc n) h.1, refl, h.3, all_take (λ c. continues_symbol c ≡ true) (suc n) h.1 h.4))
inner_front first (Token Period) text n less h = let e = ap length h in absurd (omega arith)
inner_front first (Token Star) text n less h = let e = ap length h in absurd (omega arith)
inner_front first (Token LeftParen) text n less h = let e = ap length h in absurd (omega arith)
inner_front first (Token RightParen) text n less h = let e = ap length h in absurd (omega arith)
inner_front first (Token (Nag g)) text n less h = ⊎_elim
    (λ numbered.
    let digits = take (suc n) numbered.0 in
    let size : length text ≡ suc (length numbered.0) = ap length numbered.1 in
    let some : length digits ≡ suc n = length-take-le (suc n) numbered.0 (omega arith) in
    subst (λ t. IsSome first (take (suc (suc n)) t)) (sym numbered.1)
    (Token (Nag (min 256 (digits_value 10 digits))), inl (digits, refl, omega arith, all_take (λ d. is_ascii_digit d ≡ true) (suc n) numbered.0 numbered.3, refl)))
    (λ suffix. let e = suffix_short g text suffix in absurd (omega arith))
    h
inner_front first (Token Null) text n less h = let e = ap length h in absurd (omega arith)
inner_front first (Token Comment) text n less h =
    let size : length text ≡ suc (length h.0 + 1) = ap length h.1 ∙ ap suc (length-append h.0 (125 ∷ [])) in
    let same : take (suc n) (h.0 ++ 125 ∷ []) ≡ take (suc n) h.0 = take-append-le (suc n) h.0 (125 ∷ []) (omega arith) in
    subst (λ t. IsSome first (take (suc (suc n)) t)) (sym h.1) (Token UnclosedComment, (take (suc n) h.0, ap (λ l. 123 ∷ l) same, all_take (λ b. b ≢ 125) (suc n) h.0 h.2))
inner_front first (Token LineComment) text n less h =
    subst (λ t. IsSome first (take (suc (suc n)) t)) (sym h.1) (Token LineComment, (take (suc n) h.0, refl, all_take (λ b. b ≢ 10) (suc n) h.0 h.2))
inner_front first (Token BadByte) text n less h = absurd (omega arith)
inner_front first (Token UnclosedComment) text n less h =
    subst (λ t. IsSome first (take (suc (suc n)) t)) (sym h.1) (Token UnclosedComment, (take (suc n) h.0, refl, all_take (λ b. b ≢ 125) (suc n) h.0 h.2))
inner_front first (Token UnclosedText) text n less h =
    let size : length text ≡ suc (length h.0) = ap length h.1 in
    subst (λ t. IsSome first (take (suc (suc n)) t)) (sym h.1) (Token UnclosedText, (take (suc n) h.0, refl, unfinished_front (suc n) h.0 (omega arith) h.2))

-- every front of a lexeme is one
pub lexeme_front : (first : Bool) (kind : LexemeKind) (text : List ℕ) (m : ℕ) → 0 < m → m ≤ length text → IsLexeme first kind text → IsSome first (take m text)
lexeme_front first kind text zero some within h = absurd (omega arith)
lexeme_front first kind text (suc zero) some within h = (Token BadByte, length-take-le 1 text within)
lexeme_front first kind text (suc (suc n)) some within h =
    ⊎_elim (λ less. inner_front first kind text n less h)
    (λ most. (kind, subst (IsLexeme first kind) (sym (take_all (suc (suc n)) text most)) h))
    (cases_lt (suc (suc n)) (length text))

-- a reading of more bytes that fits into the front is that of the front
front_reads : (first : Bool) (b : ℕ) (bs more : List ℕ) → (reading first b (bs ++ more)).len ≤ length (b ∷ bs) → reading first b (bs ++ more) ≡ reading first b bs
front_reads first b bs more fits =
    let same = reading_same (length bs) (bs ++ more) first b (omega arith) in
    sym same ∙ ap (reading first b) (take-append-le (length bs) bs more (omega arith) ∙ take_all (length bs) bs (omega arith))

-- a reading of more bytes is no shorter
reading_grows : (first : Bool) (b : ℕ) (bs more : List ℕ) → (reading first b bs).len ≤ (reading first b (bs ++ more)).len
reading_grows first b bs more =
    let r = reading first b bs in
    let short = is_longest first b bs in
    let within = short.within in
    let size : length (b ∷ bs ++ more) ≡ suc (length bs + length more) = ap suc (length-append bs more) in
    let part : take r.len (b ∷ bs ++ more) ≡ take r.len (b ∷ bs) = take-append-le r.len (b ∷ bs) more within in
    (is_longest first b (bs ++ more)).longest r.kind r.len (omega arith) (subst (IsLexeme first r.kind) (sym part) short.reads)

pub grows : (first : Bool) (b : ℕ) (bs more : List ℕ) → Grows first b bs more
grows first b bs more = record { longer = reading_grows first b bs more; same = front_reads first b bs more }

-- a reading that ends before the front does stays, whatever follows
reading_stays : (first : Bool) (b : ℕ) (bs more : List ℕ) → (reading first b bs).len ≤ length bs → reading first b (bs ++ more) ≡ reading first b bs
reading_stays first b bs more ends =
    let r = reading first b (bs ++ more) in
    let size : length (b ∷ bs ++ more) ≡ suc (length bs + length more) = ap suc (length-append bs more) in
    let front : take (suc (length bs)) (b ∷ bs ++ more) ≡ b ∷ bs = ap (λ l. b ∷ l) (take-append-le (length bs) bs more (omega arith) ∙ take_all (length bs) bs (omega arith)) in
    ⊎_elim
    (λ longer.
    let long = is_longest first b (bs ++ more) in
    let taken : length (take r.len (b ∷ bs ++ more)) ≡ r.len = length-take-le r.len (b ∷ bs ++ more) long.within in
    let part : take (suc (length bs)) (take r.len (b ∷ bs ++ more)) ≡ b ∷ bs = take-take (suc (length bs)) r.len (b ∷ bs ++ more) (omega arith) ∙ front in
    let some = lexeme_front first r.kind (take r.len (b ∷ bs ++ more)) (suc (length bs)) (omega arith) (omega arith) long.reads in
    let whole : IsLexeme first some.0 (take (suc (length bs)) (b ∷ bs)) = subst (IsLexeme first some.0) (part ∙ sym (take_all (suc (length bs)) (b ∷ bs) (omega arith))) some.1 in
    let most = (is_longest first b bs).longest some.0 (suc (length bs)) (omega arith) whole in
    absurd (omega arith))
    (λ fits. front_reads first b bs more (omega arith))
    (cases_lt (length bs + 1) r.len)

-- the readings of the tokens of one byte, whatever follows
one_byte : (first : Bool) (c : ℕ) (kind : LexemeKind) (b : ℕ) (bs : List ℕ) → ((rest : List ℕ) → reading first c rest ≡ record { kind = kind; len = 1 })
    → (reading first b bs).len ≡ length (b ∷ bs) → take (reading first b bs).len (b ∷ bs) ≡ c ∷ []
    → (more : List ℕ) → reading first b (bs ++ more) ≡ reading first b bs
one_byte first c kind b bs always whole text more =
    let all : b ∷ bs ≡ c ∷ [] = sym (take_all (reading first b bs).len (b ∷ bs) (omega arith)) ∙ text in
    let head : b ≡ c = ap (λ l. get_or l 0 0) all in
    ap (λ x. reading first x (bs ++ more)) head ∙ always (bs ++ more) ∙ sym (always bs) ∙ ap (λ x. reading first x bs) (sym head)

module _ (first : Bool) where
  open_always : (rest : List ℕ) → reading first 91 rest ≡ record { kind = Token Open; len = 1 }
  unfolding reading single
  open_always rest = refl

  close_always : (rest : List ℕ) → reading first 93 rest ≡ record { kind = Token Close; len = 1 }
  unfolding reading single
  close_always rest = refl

  period_always : (rest : List ℕ) → reading first 46 rest ≡ record { kind = Token Period; len = 1 }
  unfolding reading single
  period_always rest = refl

  star_always : (rest : List ℕ) → reading first 42 rest ≡ record { kind = Token Star; len = 1 }
  unfolding reading single
  star_always rest = refl

  left_always : (rest : List ℕ) → reading first 40 rest ≡ record { kind = Token LeftParen; len = 1 }
  unfolding reading single
  left_always rest = refl

  right_always : (rest : List ℕ) → reading first 41 rest ≡ record { kind = Token RightParen; len = 1 }
  unfolding reading single
  right_always rest = refl

-- a token of one byte stays, whatever follows
token_stays : (first : Bool) (b : ℕ) (bs more : List ℕ) → (kind : LexemeKind) → IsLexeme first kind (take (reading first b bs).len (b ∷ bs)) → (reading first b bs).len ≡ length (b ∷ bs)
    → is_left_open kind ≡ false → reading first b (bs ++ more) ≡ reading first b bs
token_stays first b bs more (Token Open) is whole fixed = one_byte first 91 (Token Open) b bs (open_always first) whole is more
token_stays first b bs more (Token Close) is whole fixed = one_byte first 93 (Token Close) b bs (close_always first) whole is more
token_stays first b bs more (Token Period) is whole fixed = one_byte first 46 (Token Period) b bs (period_always first) whole is more
token_stays first b bs more (Token Star) is whole fixed = one_byte first 42 (Token Star) b bs (star_always first) whole is more
token_stays first b bs more (Token LeftParen) is whole fixed = one_byte first 40 (Token LeftParen) b bs (left_always first) whole is more
token_stays first b bs more (Token RightParen) is whole fixed = one_byte first 41 (Token RightParen) b bs (right_always first) whole is more
token_stays first b bs more (Token Text) is whole fixed = absurd (true≢false fixed)
token_stays first b bs more (Token Symbol) is whole fixed = absurd (true≢false fixed)
token_stays first b bs more (Token (Nag g)) is whole fixed = absurd (true≢false fixed)
token_stays first b bs more (Token Null) is whole fixed = absurd (true≢false fixed)
token_stays first b bs more (Token Comment) is whole fixed = absurd (true≢false fixed)
token_stays first b bs more (Token LineComment) is whole fixed = absurd (true≢false fixed)
token_stays first b bs more (Token BadByte) is whole fixed = absurd (true≢false fixed)
token_stays first b bs more (Token UnclosedComment) is whole fixed = absurd (true≢false fixed)
token_stays first b bs more (Token UnclosedText) is whole fixed = absurd (true≢false fixed)
token_stays first b bs more EscapeLine is whole fixed = absurd (true≢false fixed)

-- the same of the lexemes of a front, of which some bytes belong to the lexeme before
record SettlesFrom (bs : List ℕ) (inside at : ℕ) (first : Bool) : Type 0 where
  settled : List Lexeme
  place : ℕ
  within : place ≤ length bs
  stay : (more : List ℕ) → lexemes_from (bs ++ more) inside at first ≡ settled ++ lexemes_from (drop place bs ++ more) 0 (at + place) (first_at first bs place)
  unsettled : IsUnsettled (first_at first bs place) (drop place bs)

-- one byte further, which gives these lexemes
further : (b : ℕ) (bs : List ℕ) (inside at : ℕ) (first : Bool) (given : List Lexeme) (next : ℕ)
    → ((more : List ℕ) → lexemes_from (b ∷ bs ++ more) inside at first ≡ given ++ lexemes_from (bs ++ more) next (at + 1) (ends_line b))
    → SettlesFrom bs next (at + 1) (ends_line b) → SettlesFrom (b ∷ bs) inside at first
further b bs inside at first given next step rest =
    let n = rest.place in
    let within = rest.within in
    let column : first_at first (b ∷ bs) (suc n) ≡ first_at (ends_line b) bs n = first_at-cons first b bs n in
    let place : at + 1 + n ≡ at + suc n = omega arith in
    record {
      settled = given ++ rest.settled;
      place = suc n;
      within = omega arith;
      stay = λ more. step more ∙ ap (λ ls. given ++ ls) (rest.stay more) ∙ sym (append_assoc given rest.settled _)
          ∙ ap₂ (λ p c. (given ++ rest.settled) ++ lexemes_from (drop n bs ++ more) 0 p c) place (sym column);
      unsettled = subst (λ c. IsUnsettled c (drop n bs)) (sym column) rest.unsettled;
    }

-- three cases: the byte is white space, it begins a lexeme that ends before the front does, or that lexeme is all that
-- is left
white_settles : (b : ℕ) (bs : List ℕ) (at : ℕ) (first : Bool) → is_white b ≡ true → SettlesFrom bs 0 (at + 1) (ends_line b) → SettlesFrom (b ∷ bs) 0 at first
unfolding lexemes_from
white_settles b bs at first white rest =
    further b bs 0 at first [] 0
    (λ more. ap (λ t. cond t (lexemes_from (bs ++ more) 0 (at + 1) (ends_line b))
    (lexeme at first b (bs ++ more) ∷ lexemes_from (bs ++ more) ((reading first b (bs ++ more)).len - 1) (at + 1) (ends_line b))) white)
    rest

lexeme_settles : (b : ℕ) (bs : List ℕ) (at : ℕ) (first : Bool) → is_white b ≡ false → ((more : List ℕ) → reading first b (bs ++ more) ≡ reading first b bs)
    → SettlesFrom bs ((reading first b bs).len - 1) (at + 1) (ends_line b) → SettlesFrom (b ∷ bs) 0 at first
unfolding lexemes_from
lexeme_settles b bs at first dark stays rest =
    let r = reading first b bs in
    let within = reading_within first b bs in
    further b bs 0 at first (lexeme at first b bs ∷ []) (r.len - 1)
    (λ more.
    ap (λ t. cond t (lexemes_from (bs ++ more) 0 (at + 1) (ends_line b))
    (lexeme at first b (bs ++ more) ∷ lexemes_from (bs ++ more) ((reading first b (bs ++ more)).len - 1) (at + 1) (ends_line b))) dark
    ∙ ap (λ q. (record { at = at; first = first; text = take q.len (b ∷ bs ++ more); kind = q.kind }) ∷ lexemes_from (bs ++ more) (q.len - 1) (at + 1) (ends_line b)) (stays more)
    ∙ ap (λ t. (record { at = at; first = first; text = t; kind = r.kind }) ∷ lexemes_from (bs ++ more) (r.len - 1) (at + 1) (ends_line b)) (take-append-le r.len (b ∷ bs) more (omega arith)))
    rest

last_unsettled : (b : ℕ) (bs : List ℕ) (at : ℕ) (first : Bool) → is_white b ≡ false → length bs < (reading first b bs).len
    → is_left_open (reading first b bs).kind ≡ true → SettlesFrom (b ∷ bs) 0 at first
last_unsettled b bs at first dark reaches grows_ =
    let within = reading_within first b bs in
    record {
      settled = [];
      place = 0;
      within = omega arith;
      stay = λ more. ap (λ p. lexemes_from (b ∷ bs ++ more) 0 p first) (sym (add-zero at));
      unsettled = (dark, omega arith, grows_);
    }

-- a front that begins with a lexeme settles it, or leaves it open as its last one
first_settles : (b : ℕ) (bs : List ℕ) (at : ℕ) (first : Bool) → is_white b ≡ false → SettlesFrom bs ((reading first b bs).len - 1) (at + 1) (ends_line b) → SettlesFrom (b ∷ bs) 0 at first
first_settles b bs at first dark rest =
    let within = reading_within first b bs in
    ⊎_elim
    (λ reaches. ⊎_elim
    (λ grows_. last_unsettled b bs at first dark reaches grows_)
    (λ fixed. lexeme_settles b bs at first dark (λ more. token_stays first b bs more (reading first b bs).kind (is_longest first b bs).reads (omega arith) fixed) rest)
    (cases_Bool (is_left_open (reading first b bs).kind)))
    (λ ends. lexeme_settles b bs at first dark (λ more. reading_stays first b bs more ends) rest)
    (cases_lt (length bs) (reading first b bs).len)

settle_from : (bs : List ℕ) (inside at : ℕ) (first : Bool) → inside ≤ length bs → SettlesFrom bs inside at first
unfolding lexemes_from
settle_from [] zero at first within = record { settled = []; place = 0; within = omega arith; stay = λ more. ap (λ p. lexemes_from more 0 p first) (sym (add-zero at)); unsettled = tt }
settle_from [] (suc inside) at first within = absurd (omega arith)
settle_from (b ∷ bs) (suc inside) at first within = further b bs (suc inside) at first [] inside (λ more. refl) (settle_from bs inside (at + 1) (ends_line b) (omega arith))
settle_from (b ∷ bs) zero at first within =
    let fits = reading_within first b bs in
    ⊎_elim
    (λ white. white_settles b bs at first white (settle_from bs 0 (at + 1) (ends_line b) (omega arith)))
    (λ dark. first_settles b bs at first dark (settle_from bs ((reading first b bs).len - 1) (at + 1) (ends_line b) (omega arith)))
    (cases_Bool (is_white b))

pub settles : (start : ℕ) (first : Bool) (front : List ℕ) → Settles start first front
settles start first front =
    let s = settle_from front 0 start first (omega arith) in
    record { settled = s.settled; place = s.place; within = s.within; stay = s.stay; unsettled = s.unsettled }
