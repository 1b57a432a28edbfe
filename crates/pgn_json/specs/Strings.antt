-- Texts as JSON strings (RFC 8259, section 7).
use Rattle.std.specs.Prelude.{ℕ, ◌/◌, ◌%◌, nat_lt, ◌==◌, ◌||◌, Bool, List, [], ◌∷◌, ◌++◌, if◌then◌else◌, chars, encode_utf8}
use Rattle.std.specs.Char.{digit_char}
use Rattle.std.specs.List.{flat_map}
use Rattle.std.specs.Str.{is_utf8}

-- the characters of a text: those that it spells in UTF-8, or else the character of Latin-1 for each byte
unfoldable pub characters : List ℕ → List ℕ
characters text = if is_utf8 text then chars text else text

-- a quote, a backslash and the control characters U+0000 to U+001F need an escape
abbrev pub needs_escape : ℕ → Bool
needs_escape c = nat_lt c 32 || (c == 34 || c == 92)

-- the letter after the backslash, if there is a short escape: a quote, a backslash, b, t, n, f or r; 0 if there is none
abbrev pub short_letter : ℕ → ℕ
short_letter c =
    if c == 34 then 34 else if c == 92 then 92 else if c == 8 then 98 else if c == 9 then 116 else if c == 10 then 110
    else if c == 12 then 102 else if c == 13 then 114 else 0

-- else `u` and four hexadecimal digits
abbrev pub escape : ℕ → List ℕ
escape c =
    if short_letter c == 0 then 92 ∷ 117 ∷ 48 ∷ 48 ∷ digit_char (c / 16) ∷ digit_char (c % 16) ∷ []
    else 92 ∷ short_letter c ∷ []

-- a character in a string, escaped if it has to be
abbrev pub character_text : ℕ → List ℕ
character_text c = if needs_escape c then escape c else encode_utf8 c

-- the characters between quotes
abbrev pub quoted : List ℕ → List ℕ
quoted cs = 34 ∷ flat_map character_text cs ++ 34 ∷ []

-- a text as a string
abbrev pub string_text : List ℕ → List ℕ
string_text text = quoted (characters text)
