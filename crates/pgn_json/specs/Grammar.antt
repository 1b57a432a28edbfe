-- The texts that spell a JSON value (RFC 8259, without white space). A text is the codes of its characters.
use Rattle.std.specs.Prelude.{◌≡◌, ℕ, ◌+◌, ◌-◌, ◌*◌, ◌<◌, ◌≤◌, ◌==◌, ◌&&◌, not, nat_lt, Bool, true, List, [], ◌∷◌, ◌++◌, codes, get_or, length, Option, Some, None, if◌then◌else◌}
use Rattle.std.specs.Char.{IsScalar, digit_value}
use Rattle.std.specs.Str.{all_scalars, encode_utf8_all}
use Rattle.std.specs.Str.Parse.{IsNumeral, digits_value}
use Rattle.pgn_json.specs.Data.{Value, truth, number, string, array, object, Values, no_values, more_values, Members, no_members, more_members}

-- Strings (section 7).

-- %x20-21 / %x23-5B / %x5D-10FFFF: all but the control characters, the quote and the backslash
-- (the whole text has a condition that codes are those of characters)
abbrev pub is_unescaped : ℕ → Bool
is_unescaped c = not (nat_lt c 32) && (not (c == 34) && not (c == 92))

-- the character that a letter after a backslash means: a quote, a backslash, a slash, b, f, n, r or t
abbrev pub letter_meaning : ℕ → Option ℕ
letter_meaning letter =
    if letter == 34 then Some 34 else if letter == 92 then Some 92 else if letter == 47 then Some 47 else if letter == 98 then Some 8
    else if letter == 102 then Some 12 else if letter == 110 then Some 10 else if letter == 114 then Some 13
    else if letter == 116 then Some 9 else None

-- `\u` and four hexadecimal digits, of either case: a code unit of UTF-16
pub record IsCodeUnit (n : ℕ) (text : List ℕ) : Type 0 where
  pub first : ℕ
  pub second : ℕ
  pub third : ℕ
  pub fourth : ℕ
  pub digits : (digit_value first < 16) × (digit_value second < 16) × (digit_value third < 16) × (digit_value fourth < 16)
  pub written : text ≡ 92 ∷ 117 ∷ first ∷ second ∷ third ∷ fourth ∷ []
  pub number : n ≡ 4096 * digit_value first + 256 * digit_value second + 16 * digit_value third + digit_value fourth

-- A text that spells a character: itself; a backslash and a letter; its code unit; or, from U+10000 on, those of its two surrogates. A
-- surrogate alone is in the standard's grammar, though it is no character; here it spells none.
pub data Spells (c : ℕ) (text : List ℕ) : Type 0 where
  unescaped : is_unescaped c ≡ true → text ≡ c ∷ [] → Spells c text
  by_letter : (letter : ℕ) → letter_meaning letter ≡ Some c → text ≡ 92 ∷ letter ∷ [] → Spells c text
  by_code_unit : IsCodeUnit c text → IsScalar c → Spells c text
  by_surrogates : (high low : ℕ) (front back : List ℕ) → IsCodeUnit high front → IsCodeUnit low back → (55296 ≤ high) × (high < 56320)
      → (56320 ≤ low) × (low < 57344) → c ≡ 65536 + 1024 * (high - 55296) + (low - 56320) → text ≡ front ++ back → Spells c text

-- a text that spells characters, one after the other
abbrev pub SpellsAll : List ℕ → List ℕ → Type 0
SpellsAll [] text = text ≡ []
SpellsAll (c ∷ cs) text = (front : List ℕ) × (rest : List ℕ) × (text ≡ front ++ rest) × Spells c front × SpellsAll cs rest

-- a string: its characters, between quotes
pub record IsString (cs text : List ℕ) : Type 0 where
  pub inside : List ℕ
  pub between : text ≡ 34 ∷ (inside ++ 34 ∷ [])
  pub spelled : SpellsAll cs inside

-- a text is read as these characters, and as no others
pub record IsReadAs (text cs : List ℕ) : Type 0 where
  pub string : IsString cs text
  pub alone : (ds : List ℕ) → IsString ds text → ds ≡ cs

-- Numbers (section 6), without sign, fraction and exponent: decimal digits, of which the first is no zero where there are others.
pub record IsInteger (n : ℕ) (text : List ℕ) : Type 0 where
  pub digits : IsNumeral 10 text
  pub no_zero_first : get_or text 0 0 ≡ 48 → length text ≡ 1
  pub value : digits_value 10 text ≡ n

-- Values (sections 3 to 5). An array is its values between brackets, and an object its members between braces, with a comma between two. A
-- member is a string, its name, with a colon, and a value.
unfoldable mutual
  pub IsValue : Value → List ℕ → Type 0
  IsValue truth text = text ≡ codes "true"
  IsValue (number n) text = IsInteger n text
  IsValue (string cs) text = IsString cs text
  IsValue (array vs) text = (inside : List ℕ) × (text ≡ codes "[" ++ (inside ++ codes "]")) × AreValues vs inside
  IsValue (object ms) text = (inside : List ℕ) × (text ≡ codes "{" ++ (inside ++ codes "}")) × AreMembers ms inside

  pub AreValues : Values → List ℕ → Type 0
  AreValues no_values text = text ≡ []
  AreValues (more_values v vs) text =
      (first rest : List ℕ) × (text ≡ first ++ rest) × IsValue v first × AreNextValues vs rest

  pub AreNextValues : Values → List ℕ → Type 0
  AreNextValues no_values text = text ≡ []
  AreNextValues (more_values v vs) text =
      (first rest : List ℕ) × (text ≡ codes "," ++ (first ++ rest)) × IsValue v first × AreNextValues vs rest

  pub AreMembers : Members → List ℕ → Type 0
  AreMembers no_members text = text ≡ []
  AreMembers (more_members name v ms) text =
      (key first rest : List ℕ) × (text ≡ key ++ (codes ":" ++ (first ++ rest))) × IsString name key × IsValue v first
      × AreNextMembers ms rest

  pub AreNextMembers : Members → List ℕ → Type 0
  AreNextMembers no_members text = text ≡ []
  AreNextMembers (more_members name v ms) text =
      (key first rest : List ℕ) × (text ≡ codes "," ++ (key ++ (codes ":" ++ (first ++ rest)))) × IsString name key × IsValue v first
      × AreNextMembers ms rest

-- bytes that are the UTF-8 of a text of a value (section 8.1), each of whose codes is a character's
pub record IsJson (v : Value) (bytes : List ℕ) : Type 0 where
  pub text : List ℕ
  pub scalars : all_scalars text ≡ true
  pub encoded : encode_utf8_all text ≡ bytes
  pub spelled : IsValue v text

-- bytes are read as this value, and as no other
pub record IsReadAsValue (bytes : List ℕ) (v : Value) : Type 0 where
  pub value : IsJson v bytes
  pub alone : (w : Value) → IsJson w bytes → w ≡ v
