-- The texts of values are JSON.
use Rattle.std.proofs.Common.{◌≡◌, ℕ, ◌^◌, ◌<◌, Bool, true, false, List, [], ◌∷◌, ◌++◌, length, map, get_or, refl, ap, ap₂, ◌∙◌, sym, subst, arith, inl, inr, append_assoc, codes, decimal}
use Rattle.std.proofs.lemmas.Bool.{cases_eq, ne_eqb}
use Rattle.std.proofs.lemmas.Fmt.{decimal_is_IsNumeral, decimal_digit, first_decimal}
use Rattle.std.proofs.lemmas.Str.{encode_ascii, encodes-append}
use Rattle.std.specs.List.{flat_map, AllByRecursion}
use Rattle.std.specs.Prelude.{if◌then◌else◌}
use Rattle.std.specs.Str.{encode_utf8_all}
use lib.Utf8.{encodes, scalars}
use Rattle.pgn_json.specs.Data.{Value, truth, number, string, array_of, object_of, values_of, members_of}
use Rattle.pgn_json.specs.Grammar.{IsString, IsInteger, IsValue, AreValues, AreNextValues, AreMembers, AreNextMembers}
use Rattle.pgn_json.specs.GameValue.{array_member}
use Rattle.pgn_json.specs.Strings.{quoted}
use Rattle.pgn_json.specs.Values.{next, separated, array, object, plain, member, array_member as array_member_text}
use Rattle.pgn_json.proofs.Plain.{IsPlain, decimal_plain, plain_encoded, plain_legal, plain_string}
use Rattle.pgn_json.proofs.ReadBack.{both_legal, string_legal, string_spelling, string_spelled, string_encoded}

-- The UTF-8 of a text that is such. Its characters are Unicode scalar values if a condition holds.
pub record Encodes (If : Type 0) (Is : List ℕ → Type 0) (bytes : List ℕ) : Type 0 where
  pub text : List ℕ
  pub encoded : encode_utf8_all text ≡ bytes
  pub spelled : Is text
  pub legal : If → scalars text ≡ true

-- an ASCII character is its own byte
pub ascii_first : (c : ℕ) (text : List ℕ) → c < 128 → encodes (c ∷ text) ≡ c ∷ encodes text
ascii_first c text low = ap (λ l. l ++ encodes text) (encode_ascii c low)

between : (front back : ℕ) (text bytes : List ℕ) → front < 128 → back < 128 → encodes text ≡ bytes
    → encodes (front ∷ (text ++ back ∷ [])) ≡ front ∷ (bytes ++ back ∷ [])
between front back text bytes low few is =
    ascii_first front (text ++ back ∷ []) low
    ∙ ap (λ l. front ∷ l) (encodes-append text (back ∷ []) ∙ ap₂ (λ (x y : List ℕ). x ++ y) is (ascii_first back [] few))

abbrev pub Writes : Type 0 → Value → List ℕ → Type 0
Writes If v bytes = Encodes If (IsValue v) bytes

pub truth_json : (If : Type 0) → Writes If truth (codes "true")
unfolding IsValue
truth_json If = record { text = codes "true"; encoded = plain_encoded (codes "true") refl; spelled = refl; legal = λ ok. refl }

integer : (n : ℕ) → n < 2 ^ 64 → IsInteger n (decimal n)
integer n low =
    let is = decimal_is_IsNumeral n low in
    let one : get_or (decimal n) 0 0 ≡ 48 → length (decimal n) ≡ 1 = elim (cases_eq n 0) [
      | inl zero ↦ λ first. ap length (ap decimal zero ∙ decimal_digit 0 (omega arith))
      | inr some_ ↦ λ first. absurd (omega (arith, first, first_decimal n (omega (arith, some_)) low))
    ] in
    record { digits = is.0; no_zero_first = one; value = is.1 }

pub number_json : (If : Type 0) (n : ℕ) → n < 2 ^ 64 → Writes If (number n) (decimal n)
unfolding IsValue
number_json If n low = record {
  text = decimal n;
  encoded = plain_encoded (decimal n) (decimal_plain n low);
  spelled = integer n low;
  legal = λ ok. plain_legal (decimal n) (decimal_plain n low);
}

pub string_json : (If : Type 0) (cs : List ℕ) → (If → scalars cs ≡ true) → Writes If (string cs) (quoted cs)
unfolding IsValue
string_json If cs legal = record {
  text = string_spelling cs;
  encoded = string_encoded cs;
  spelled = string_spelled cs;
  legal = λ ok. string_legal cs (legal ok);
}

pub plain_json : (If : Type 0) (text : List ℕ) → IsPlain text → Writes If (string text) (plain text)
plain_json If text is = subst (Writes If (string text)) (plain_string text is) (string_json If text (λ ok. plain_legal text is))

-- the values of a list, each written so
abbrev pub WritesAll : Type 0 → List Value → List (List ℕ) → Type 0
WritesAll If [] [] = Unit {0}
WritesAll If [] (t ∷ texts) = ⊥
WritesAll If (v ∷ vs) [] = ⊥
WritesAll If (v ∷ vs) (t ∷ texts) = Writes If v t × WritesAll If vs texts

next_values : (If : Type 0) (vs : List Value) (texts : List (List ℕ)) → WritesAll If vs texts
    → Encodes If (AreNextValues (values_of vs)) (flat_map next texts)
unfolding IsValue
next_values If [] [] are = record { text = []; encoded = refl; spelled = refl; legal = λ ok. refl }
next_values If [] (t ∷ texts) are = absurd are
next_values If (v ∷ vs) [] are = absurd are
next_values If (v ∷ vs) (t ∷ texts) are =
    let more = next_values If vs texts are.1 in
    record {
      text = 44 ∷ (are.0.text ++ more.text);
      encoded =
          ascii_first 44 (are.0.text ++ more.text) (omega arith)
          ∙ ap (λ l. 44 ∷ l) (encodes-append are.0.text more.text ∙ ap₂ (λ (x y : List ℕ). x ++ y) are.0.encoded more.encoded);
      spelled = (are.0.text, more.text, refl, are.0.spelled, more.spelled);
      legal = λ ok. both_legal are.0.text more.text (are.0.legal ok) (more.legal ok);
    }

all_values : (If : Type 0) (vs : List Value) (texts : List (List ℕ)) → WritesAll If vs texts
    → Encodes If (AreValues (values_of vs)) (separated texts)
unfolding IsValue
all_values If [] [] are = record { text = []; encoded = refl; spelled = refl; legal = λ ok. refl }
all_values If [] (t ∷ texts) are = absurd are
all_values If (v ∷ vs) [] are = absurd are
all_values If (v ∷ vs) (t ∷ texts) are =
    let more = next_values If vs texts are.1 in
    record {
      text = are.0.text ++ more.text;
      encoded = encodes-append are.0.text more.text ∙ ap₂ (λ (x y : List ℕ). x ++ y) are.0.encoded more.encoded;
      spelled = (are.0.text, more.text, refl, are.0.spelled, more.spelled);
      legal = λ ok. both_legal are.0.text more.text (are.0.legal ok) (more.legal ok);
    }

pub array_json : (If : Type 0) (vs : List Value) (texts : List (List ℕ)) → WritesAll If vs texts → Writes If (array_of vs) (array texts)
unfolding IsValue
array_json If vs texts are =
    let inside = all_values If vs texts are in
    record {
      text = 91 ∷ (inside.text ++ 93 ∷ []);
      encoded = between 91 93 inside.text (separated texts) (omega arith) (omega arith) inside.encoded;
      spelled = (inside.text, refl, inside.spelled);
      legal = λ ok. both_legal inside.text (93 ∷ []) (inside.legal ok) refl;
    }

-- a member, written so
pub record WritesMember (If : Type 0) (m : List ℕ × Value) (bytes : List ℕ) : Type 0 where
  key : List ℕ
  text : List ℕ
  encoded : encode_utf8_all (key ++ 58 ∷ text) ≡ bytes
  named : IsString m.0 key
  spelled : IsValue m.1 text
  legal : If → scalars (key ++ 58 ∷ text) ≡ true

pub member_json : (If : Type 0) (name : List ℕ) (v : Value) (bytes : List ℕ) → IsPlain name → Writes If v bytes
    → WritesMember If (name, v) (member name bytes)
member_json If name v bytes is json = record {
  key = string_spelling name;
  text = json.text;
  encoded =
      encodes-append (string_spelling name) (58 ∷ json.text)
      ∙ ap₂ (λ (x y : List ℕ). x ++ y) (string_encoded name ∙ plain_string name is)
      (ascii_first 58 json.text (omega arith) ∙ ap (λ l. 58 ∷ l) json.encoded);
  named = string_spelled name;
  spelled = json.spelled;
  legal = λ ok. both_legal (string_spelling name) (58 ∷ json.text) (string_legal name (plain_legal name is)) (json.legal ok);
}

abbrev pub WritesMembers : Type 0 → List (List ℕ × Value) → List (List ℕ) → Type 0
WritesMembers If [] [] = Unit {0}
WritesMembers If [] (t ∷ texts) = ⊥
WritesMembers If (m ∷ ms) [] = ⊥
WritesMembers If (m ∷ ms) (t ∷ texts) = WritesMember If m t × WritesMembers If ms texts

regrouped : (key first rest : List ℕ) → encodes (key ++ 58 ∷ (first ++ rest)) ≡ encodes (key ++ 58 ∷ first) ++ encodes rest
regrouped key first rest = ap encodes (sym (append_assoc key (58 ∷ first) rest)) ∙ encodes-append (key ++ 58 ∷ first) rest

legal_parts : (key first rest : List ℕ) → scalars (key ++ 58 ∷ first) ≡ true → scalars rest ≡ true → scalars (key ++ 58 ∷ (first ++ rest)) ≡ true
legal_parts key first rest a b = ap scalars (sym (append_assoc key (58 ∷ first) rest)) ∙ both_legal (key ++ 58 ∷ first) rest a b

next_members : (If : Type 0) (ms : List (List ℕ × Value)) (texts : List (List ℕ)) → WritesMembers If ms texts
    → Encodes If (AreNextMembers (members_of ms)) (flat_map next texts)
unfolding IsValue
next_members If [] [] are = record { text = []; encoded = refl; spelled = refl; legal = λ ok. refl }
next_members If [] (t ∷ texts) are = absurd are
next_members If (m ∷ ms) [] are = absurd are
next_members If (m ∷ ms) (t ∷ texts) are =
    let one = are.0 in
    let more = next_members If ms texts are.1 in
    record {
      text = 44 ∷ (one.key ++ 58 ∷ (one.text ++ more.text));
      encoded =
          ascii_first 44 (one.key ++ 58 ∷ (one.text ++ more.text)) (omega arith)
          ∙ ap (λ l. 44 ∷ l) (regrouped one.key one.text more.text ∙ ap₂ (λ (x y : List ℕ). x ++ y) one.encoded more.encoded);
      spelled = (one.key, one.text, more.text, refl, one.named, one.spelled, more.spelled);
      legal = λ ok. legal_parts one.key one.text more.text (one.legal ok) (more.legal ok);
    }

all_members : (If : Type 0) (ms : List (List ℕ × Value)) (texts : List (List ℕ)) → WritesMembers If ms texts
    → Encodes If (AreMembers (members_of ms)) (separated texts)
unfolding IsValue
all_members If [] [] are = record { text = []; encoded = refl; spelled = refl; legal = λ ok. refl }
all_members If [] (t ∷ texts) are = absurd are
all_members If (m ∷ ms) [] are = absurd are
all_members If (m ∷ ms) (t ∷ texts) are =
    let one = are.0 in
    let more = next_members If ms texts are.1 in
    record {
      text = one.key ++ 58 ∷ (one.text ++ more.text);
      encoded = regrouped one.key one.text more.text ∙ ap₂ (λ (x y : List ℕ). x ++ y) one.encoded more.encoded;
      spelled = (one.key, one.text, more.text, refl, one.named, one.spelled, more.spelled);
      legal = λ ok. legal_parts one.key one.text more.text (one.legal ok) (more.legal ok);
    }

pub object_json : (If : Type 0) (ms : List (List ℕ × Value)) (texts : List (List ℕ)) → WritesMembers If ms texts
    → Writes If (object_of ms) (object texts)
unfolding IsValue
object_json If ms texts are =
    let inside = all_members If ms texts are in
    record {
      text = 123 ∷ (inside.text ++ 125 ∷ []);
      encoded = between 123 125 inside.text (separated texts) (omega arith) (omega arith) inside.encoded;
      spelled = (inside.text, refl, inside.spelled);
      legal = λ ok. both_legal inside.text (125 ∷ []) (inside.legal ok) refl;
    }

-- lists of them
pub members_joined : (If : Type 0) (ms ns : List (List ℕ × Value)) (texts others : List (List ℕ)) → WritesMembers If ms texts
    → WritesMembers If ns others → WritesMembers If (ms ++ ns) (texts ++ others)
members_joined If [] ns [] others are more = more
members_joined If [] ns (t ∷ texts) others are more = absurd are
members_joined If (m ∷ ms) ns [] others are more = absurd are
members_joined If (m ∷ ms) ns (t ∷ texts) others are more = (are.0, members_joined If ms ns texts others are.1 more)

pub array_members : (If : Type 0) (name : List ℕ) (vs : List Value) (texts : List (List ℕ)) → IsPlain name → WritesAll If vs texts
    → WritesMembers If (array_member name vs) (array_member_text name texts)
array_members If name [] [] is are = tt
array_members If name [] (t ∷ texts) is are = absurd are
array_members If name (v ∷ vs) [] is are = absurd are
array_members If name (v ∷ vs) (t ∷ texts) is are =
    let one = member name (array (t ∷ texts)) in
    subst (WritesMembers If ((name, array_of (v ∷ vs)) ∷ []))
    (ap (λ b. if b then [] else one ∷ []) (sym (ne_eqb (length (t ∷ texts)) 0 (λ e. omega (arith, e)))))
    (member_json If name (array_of (v ∷ vs)) (array (t ∷ texts)) is (array_json If (v ∷ vs) (t ∷ texts) are), tt)

pub member_if : (If : Type 0) (b : Bool) (m : List ℕ × Value) (text : List ℕ) → WritesMember If m text
    → WritesMembers If (if b then m ∷ [] else []) (if b then text ∷ [] else [])
member_if If true m text is = (is, tt)
member_if If false m text is = tt

pub each_json : {X : Type 0} (If : Type 0) (value : X → Value) (text : X → List ℕ) (Can : X → Type 0)
    → ((x : X) → Can x → Writes If (value x) (text x)) → (xs : List X) → AllByRecursion Can xs → WritesAll If (map value xs) (map text xs)
each_json If value text Can each [] can = tt
each_json If value text Can each (x ∷ xs) can = (each x can.0, each_json If value text Can each xs can.1)
