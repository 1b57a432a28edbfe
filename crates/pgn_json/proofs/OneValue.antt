-- A text is one value.
use Rattle.std.proofs.Common.{◌≡◌, ℕ, ◌<◌, List, [], ◌∷◌, ◌++◌, get_or, drop, refl, ap, ap₂, ◌∙◌, sym, subst, arith, append_assoc, ◌==◌, nat_lt}
use Rattle.std.proofs.lemmas.Bool.{lt-ltb}
use Rattle.std.proofs.lemmas.Str.{encodes_same}
use Rattle.std.specs.Char.{digit_value}
use Rattle.std.specs.Prelude.{if◌then◌else◌}
use Rattle.std.specs.Str.{encode_utf8_all}
use Rattle.std.specs.Str.Parse.{AllDigits, digits_value}
use Rattle.pgn_json.specs.Data.{Value, truth, number, string, array, object, Values, no_values, more_values, Members, no_members, more_members}
use Rattle.pgn_json.specs.Grammar.{IsString, IsInteger, IsValue, AreValues, AreNextValues, AreMembers, AreNextMembers, IsJson}
use Rattle.pgn_json.proofs.OneReading.{one_string}

-- a text does not begin with a digit
abbrev NoDigit : List ℕ → Type 0
NoDigit text = digit_value (get_or text 0 0) < 10 → ⊥

-- the kind of value that begins with a character
abbrev kind : ℕ → ℕ
kind c =
    if nat_lt (digit_value c) 10 then 0 else if c == 34 then 1 else if c == 91 then 2 else if c == 123 then 3 else if c == 116 then 4 else 5

abbrev kind_of : Value → ℕ
kind_of (number n) = 0
kind_of (string cs) = 1
kind_of (array vs) = 2
kind_of (object ms) = 3
kind_of truth = 4

digit_kind : (c : ℕ) → digit_value c < 10 → kind c ≡ 0
digit_kind c low = rw (lt-ltb (digit_value c) 10 low) refl

string_first : (cs f r : List ℕ) → IsString cs f → get_or (f ++ r) 0 0 ≡ 34
string_first cs f r is = ap (λ l. get_or (l ++ r) 0 0) is.between

integer_first : (n : ℕ) (f r : List ℕ) → IsInteger n f → kind (get_or (f ++ r) 0 0) ≡ 0
integer_first n [] r is = absurd (omega (arith, is.digits.0))
integer_first n (c ∷ f) r is = digit_kind c is.digits.1.0

first_kind : (v : Value) (f r : List ℕ) → IsValue v f → kind (get_or (f ++ r) 0 0) ≡ kind_of v
unfolding IsValue
first_kind truth f r is = ap (λ l. kind (get_or (l ++ r) 0 0)) is
first_kind (number n) f r is = integer_first n f r is
first_kind (string cs) f r is = ap kind (string_first cs f r is)
first_kind (array vs) f r is = ap (λ l. kind (get_or (l ++ r) 0 0)) is.1
first_kind (object ms) f r is = ap (λ l. kind (get_or (l ++ r) 0 0)) is.1

-- the ends of two integers
runs : (f g r s : List ℕ) → AllDigits 10 f → AllDigits 10 g → NoDigit r → NoDigit s → f ++ r ≡ g ++ s → (f ≡ g) × (r ≡ s)
runs [] [] r s a b i j same = (refl, same)
runs [] (d ∷ g) r s a b i j same = absurd (i (subst (λ c. digit_value c < 10) (sym (ap (λ l. get_or l 0 0) same)) b.0))
runs (c ∷ f) [] r s a b i j same = absurd (j (subst (λ d. digit_value d < 10) (ap (λ l. get_or l 0 0) same) a.0))
runs (c ∷ f) (d ∷ g) r s a b i j same =
    let more = runs f g r s a.1 b.1 i j (ap (drop 1) same) in
    (ap₂ (λ x (xs : List ℕ). x ∷ xs) (ap (λ l. get_or l 0 0) same) more.0, more.1)

one_integer : (n m : ℕ) (f g r s : List ℕ) → IsInteger n f → IsInteger m g → NoDigit r → NoDigit s → f ++ r ≡ g ++ s → (n ≡ m) × (r ≡ s)
one_integer n m f g r s a b i j same =
    let one = runs f g r s a.digits.1 b.digits.1 i j same in (sym a.value ∙ ap (digits_value 10) one.0 ∙ b.value, one.1)

-- the text after values or members: neither another nor a comma
record Ends (text : List ℕ) : Type 0 where
  no_digit : NoDigit text
  no_value : kind (get_or text 0 0) ≡ 5
  no_comma : get_or text 0 0 ≡ 44 → ⊥

bracket_ends : (r : List ℕ) → Ends (93 ∷ r)
bracket_ends r = record { no_digit = λ h. absurd (omega (arith, h)); no_value = refl; no_comma = λ h. absurd (omega (arith, h)) }

brace_ends : (r : List ℕ) → Ends (125 ∷ r)
brace_ends r = record { no_digit = λ h. absurd (omega (arith, h)); no_value = refl; no_comma = λ h. absurd (omega (arith, h)) }

comma_no_digit : (f g r : List ℕ) → f ≡ 44 ∷ g → NoDigit (f ++ r)
comma_no_digit f g r is h = absurd (omega (arith, subst (λ l. digit_value (get_or (l ++ r) 0 0) < 10) is h))

after_value : (vs : Values) (f r : List ℕ) → AreNextValues vs f → Ends r → NoDigit (f ++ r)
unfolding IsValue
after_value no_values f r are ends = subst (λ l. NoDigit (l ++ r)) (sym are) ends.no_digit
after_value (more_values v vs) f r are ends = comma_no_digit f _ r are.2

after_member : (ms : Members) (f r : List ℕ) → AreNextMembers ms f → Ends r → NoDigit (f ++ r)
unfolding IsValue
after_member no_members f r are ends = subst (λ l. NoDigit (l ++ r)) (sym are) ends.no_digit
after_member (more_members name v ms) f r are ends = comma_no_digit f _ r are.3

no_next : (f r s : List ℕ) → Ends r → f ≡ [] → f ++ r ≡ 44 ∷ s → ⊥
no_next f r s ends none same = ends.no_comma (ap (λ l. get_or l 0 0) (sym (ap (λ l. l ++ r) none) ∙ same))

-- a text between two characters, before others
between : (front back : ℕ) (f inside r : List ℕ) → f ≡ front ∷ (inside ++ back ∷ []) → f ++ r ≡ front ∷ (inside ++ back ∷ r)
between front back f inside r is = ap (λ l. l ++ r) is ∙ ap (λ l. front ∷ l) (append_assoc inside (back ∷ []) r)

two_parts : (f first rest r : List ℕ) → f ≡ first ++ rest → f ++ r ≡ first ++ (rest ++ r)
two_parts f first rest r is = ap (λ l. l ++ r) is ∙ append_assoc first rest r

member_parts : (f key first rest r : List ℕ) → f ≡ key ++ 58 ∷ (first ++ rest) → f ++ r ≡ key ++ 58 ∷ (first ++ (rest ++ r))
member_parts f key first rest r is =
    ap (λ l. l ++ r) is ∙ append_assoc key (58 ∷ (first ++ rest)) r ∙ ap (λ l. key ++ 58 ∷ l) (append_assoc first rest r)

next_member_parts : (f key first rest r : List ℕ) → f ≡ 44 ∷ (key ++ 58 ∷ (first ++ rest)) → f ++ r ≡ 44 ∷ (key ++ 58 ∷ (first ++ (rest ++ r)))
next_member_parts f key first rest r is = ap (λ l. l ++ r) is ∙ ap (λ l. 44 ∷ l) (member_parts (key ++ 58 ∷ (first ++ rest)) key first rest r refl)

next_parts : (f first rest r : List ℕ) → f ≡ 44 ∷ (first ++ rest) → f ++ r ≡ 44 ∷ (first ++ (rest ++ r))
next_parts f first rest r is = ap (λ l. l ++ r) is ∙ ap (λ l. 44 ∷ l) (append_assoc first rest r)

same_kind : (v w : Value) (f g r s : List ℕ) → IsValue v f → IsValue w g → f ++ r ≡ g ++ s → kind_of v ≡ kind_of w
same_kind v w f g r s a b same = sym (first_kind v f r a) ∙ ap (λ l. kind (get_or l 0 0)) same ∙ first_kind w g s b

-- no value where they end
no_first : (v : Value) (first rest text r : List ℕ) → IsValue v first → text ≡ first ++ rest → Ends r → text ≡ r → ⊥
no_first v first rest text r is whole ends same =
    let one : kind_of v ≡ 5 = sym (first_kind v first rest is) ∙ ap (λ l. kind (get_or l 0 0)) (sym whole ∙ same) ∙ ends.no_value in few v one
  where
    few : (v : Value) → kind_of v ≡ 5 → ⊥
    few truth e = absurd (omega (arith, e))
    few (number n) e = absurd (omega (arith, e))
    few (string cs) e = absurd (omega (arith, e))
    few (array vs) e = absurd (omega (arith, e))
    few (object ms) e = absurd (omega (arith, e))

no_key : (name key rest text r : List ℕ) → IsString name key → text ≡ key ++ rest → Ends r → text ≡ r → ⊥
no_key name key rest text r is whole ends same =
    let one : 1 ≡ 5 = ap kind (sym (string_first name key rest is)) ∙ ap (λ l. kind (get_or l 0 0)) (sym whole ∙ same) ∙ ends.no_value in
    absurd (omega (arith, one))

one_key : (name other key key' first first' : List ℕ) → IsString name key → IsString other key' → key ++ 58 ∷ first ≡ key' ++ 58 ∷ first'
    → (name ≡ other) × (first ≡ first')
one_key name other key key' first first' a b same =
    let one = one_string name other key key' (58 ∷ first) (58 ∷ first') a b same in (one.0, ap (drop 1) one.1)

three : (m n : List ℕ) (v w : Value) (ms ns : Members) → m ≡ n → v ≡ w → ms ≡ ns → more_members m v ms ≡ more_members n w ns
three m n v w ms ns a b c = ap (λ x. more_members x v ms) a ∙ ap₂ (λ x y. more_members n x y) b c

mutual
  unfolding IsValue

  one_value : (v w : Value) (f g r s : List ℕ) → IsValue v f → IsValue w g → NoDigit r → NoDigit s → f ++ r ≡ g ++ s → (v ≡ w) × (r ≡ s)
  one_value truth truth f g r s a b i j same =
      (refl, ap (drop 4) (sym (ap (λ l. l ++ r) a) ∙ same ∙ ap (λ l. l ++ s) b))
  one_value (number n) (number m) f g r s a b i j same = let one = one_integer n m f g r s a b i j same in (ap number one.0, one.1)
  one_value (string cs) (string ds) f g r s a b i j same = let one = one_string cs ds f g r s a b same in (ap string one.0, one.1)
  one_value (array vs) (array ws) f g r s a b i j same =
      let inner = ap (drop 1) (sym (between 91 93 f a.0 r a.1) ∙ same ∙ between 91 93 g b.0 s b.1) in
      let one = one_values vs ws a.0 b.0 (93 ∷ r) (93 ∷ s) a.2 b.2 (bracket_ends r) (bracket_ends s) inner in
      (ap array one.0, ap (drop 1) one.1)
  one_value (object ms) (object ns) f g r s a b i j same =
      let inner = ap (drop 1) (sym (between 123 125 f a.0 r a.1) ∙ same ∙ between 123 125 g b.0 s b.1) in
      let one = one_members ms ns a.0 b.0 (125 ∷ r) (125 ∷ s) a.2 b.2 (brace_ends r) (brace_ends s) inner in
      (ap object one.0, ap (drop 1) one.1)
  one_value v w f g r s a b i j same = absurd (omega (arith, same_kind v w f g r s a b same))

  one_values : (vs ws : Values) (f g r s : List ℕ) → AreValues vs f → AreValues ws g → Ends r → Ends s → f ++ r ≡ g ++ s
      → (vs ≡ ws) × (r ≡ s)
  one_values no_values no_values f g r s a b i j same = (refl, sym (ap (λ l. l ++ r) a) ∙ same ∙ ap (λ l. l ++ s) b)
  one_values no_values (more_values w ws) f g r s a b i j same =
      absurd (no_first w b.0 (b.1 ++ s) (g ++ s) r b.3 (two_parts g b.0 b.1 s b.2) i (sym same ∙ ap (λ l. l ++ r) a))
  one_values (more_values v vs) no_values f g r s a b i j same =
      absurd (no_first v a.0 (a.1 ++ r) (f ++ r) s a.3 (two_parts f a.0 a.1 r a.2) j (same ∙ ap (λ l. l ++ s) b))
  one_values (more_values v vs) (more_values w ws) f g r s a b i j same =
      let whole = sym (two_parts f a.0 a.1 r a.2) ∙ same ∙ two_parts g b.0 b.1 s b.2 in
      let one = one_value v w a.0 b.0 (a.1 ++ r) (b.1 ++ s) a.3 b.3 (after_value vs a.1 r a.4 i) (after_value ws b.1 s b.4 j) whole in
      let more = one_next_values vs ws a.1 b.1 r s a.4 b.4 i j one.1 in
      (ap₂ (λ x y. more_values x y) one.0 more.0, more.1)

  one_next_values : (vs ws : Values) (f g r s : List ℕ) → AreNextValues vs f → AreNextValues ws g → Ends r → Ends s → f ++ r ≡ g ++ s
      → (vs ≡ ws) × (r ≡ s)
  one_next_values no_values no_values f g r s a b i j same = (refl, sym (ap (λ l. l ++ r) a) ∙ same ∙ ap (λ l. l ++ s) b)
  one_next_values no_values (more_values w ws) f g r s a b i j same =
      absurd (no_next f r (b.0 ++ (b.1 ++ s)) i a (same ∙ next_parts g b.0 b.1 s b.2))
  one_next_values (more_values v vs) no_values f g r s a b i j same =
      absurd (no_next g s (a.0 ++ (a.1 ++ r)) j b (sym same ∙ next_parts f a.0 a.1 r a.2))
  one_next_values (more_values v vs) (more_values w ws) f g r s a b i j same =
      let whole = ap (drop 1) (sym (next_parts f a.0 a.1 r a.2) ∙ same ∙ next_parts g b.0 b.1 s b.2) in
      let one = one_value v w a.0 b.0 (a.1 ++ r) (b.1 ++ s) a.3 b.3 (after_value vs a.1 r a.4 i) (after_value ws b.1 s b.4 j) whole in
      let more = one_next_values vs ws a.1 b.1 r s a.4 b.4 i j one.1 in
      (ap₂ (λ x y. more_values x y) one.0 more.0, more.1)

  one_members : (ms ns : Members) (f g r s : List ℕ) → AreMembers ms f → AreMembers ns g → Ends r → Ends s → f ++ r ≡ g ++ s
      → (ms ≡ ns) × (r ≡ s)
  one_members no_members no_members f g r s a b i j same = (refl, sym (ap (λ l. l ++ r) a) ∙ same ∙ ap (λ l. l ++ s) b)
  one_members no_members (more_members n w ns) f g r s a b i j same =
      absurd (no_key n b.0 (58 ∷ (b.1 ++ (b.2 ++ s))) (g ++ s) r b.4 (member_parts g b.0 b.1 b.2 s b.3) i (sym same ∙ ap (λ l. l ++ r) a))
  one_members (more_members m v ms) no_members f g r s a b i j same =
      absurd (no_key m a.0 (58 ∷ (a.1 ++ (a.2 ++ r))) (f ++ r) s a.4 (member_parts f a.0 a.1 a.2 r a.3) j (same ∙ ap (λ l. l ++ s) b))
  one_members (more_members m v ms) (more_members n w ns) f g r s a b i j same =
      let whole = sym (member_parts f a.0 a.1 a.2 r a.3) ∙ same ∙ member_parts g b.0 b.1 b.2 s b.3 in
      let name = one_key m n a.0 b.0 (a.1 ++ (a.2 ++ r)) (b.1 ++ (b.2 ++ s)) a.4 b.4 whole in
      let one = one_value v w a.1 b.1 (a.2 ++ r) (b.2 ++ s) a.5 b.5 (after_member ms a.2 r a.6 i) (after_member ns b.2 s b.6 j) name.1 in
      let more = one_next_members ms ns a.2 b.2 r s a.6 b.6 i j one.1 in
      (three m n v w ms ns name.0 one.0 more.0, more.1)

  one_next_members : (ms ns : Members) (f g r s : List ℕ) → AreNextMembers ms f → AreNextMembers ns g → Ends r → Ends s → f ++ r ≡ g ++ s
      → (ms ≡ ns) × (r ≡ s)
  one_next_members no_members no_members f g r s a b i j same = (refl, sym (ap (λ l. l ++ r) a) ∙ same ∙ ap (λ l. l ++ s) b)
  one_next_members no_members (more_members n w ns) f g r s a b i j same =
      absurd (no_next f r (b.0 ++ 58 ∷ (b.1 ++ (b.2 ++ s))) i a (same ∙ next_member_parts g b.0 b.1 b.2 s b.3))
  one_next_members (more_members m v ms) no_members f g r s a b i j same =
      absurd (no_next g s (a.0 ++ 58 ∷ (a.1 ++ (a.2 ++ r))) j b (sym same ∙ next_member_parts f a.0 a.1 a.2 r a.3))
  one_next_members (more_members m v ms) (more_members n w ns) f g r s a b i j same =
      let whole = ap (drop 1) (sym (next_member_parts f a.0 a.1 a.2 r a.3) ∙ same ∙ next_member_parts g b.0 b.1 b.2 s b.3) in
      let name = one_key m n a.0 b.0 (a.1 ++ (a.2 ++ r)) (b.1 ++ (b.2 ++ s)) a.4 b.4 whole in
      let one = one_value v w a.1 b.1 (a.2 ++ r) (b.2 ++ s) a.5 b.5 (after_member ms a.2 r a.6 i) (after_member ns b.2 s b.6 j) name.1 in
      let more = one_next_members ms ns a.2 b.2 r s a.6 b.6 i j one.1 in
      (three m n v w ms ns name.0 one.0 more.0, more.1)

-- bytes are one value
pub one_spelled : (v w : Value) (text text' : List ℕ) → encode_utf8_all text ≡ encode_utf8_all text' → IsValue v text → IsValue w text' → v ≡ w
one_spelled v w text text' encoded a b =
    let same : text ≡ text' = encodes_same text text' encoded in
    (one_value v w text text' [] [] a b (λ h. absurd (omega (arith, h))) (λ h. absurd (omega (arith, h))) (ap (λ l. l ++ []) same)).0

pub one_reading : (v w : Value) (bytes : List ℕ) → IsJson v bytes → IsJson w bytes → v ≡ w
one_reading v w bytes a b = one_spelled v w a.text b.text (a.encoded ∙ sym b.encoded) a.spelled b.spelled
