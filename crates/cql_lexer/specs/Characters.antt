-- Kinds of bytes.
use Rattle.std.specs.Prelude.{ℕ, Bool, false, not, ◌&&◌, ◌||◌, ◌==◌, nat_le, List, [], ◌∷◌}
use Rattle.std.specs.Char.{is_ascii_alphabetic, is_ascii_alphanumeric}

abbrev pub is_line_feed : ℕ → Bool
is_line_feed b = b == 10

-- the bytes of names: letters, digits and `_`
abbrev pub is_name_byte : ℕ → Bool
is_name_byte b = is_ascii_alphanumeric b || b == 95

-- the first byte of a name or a designator: a letter, `_`, `.` or `[`
abbrev pub begins_name_or_squares : ℕ → Bool
begins_name_or_squares b = is_ascii_alphabetic b || b == 95 || b == 46 || b == 91

-- the bytes of file names: those after the space, other than `"`, `(` and `)`
abbrev pub is_file_byte : ℕ → Bool
is_file_byte b = nat_le 33 b && not (b == 34 || b == 40 || b == 41)

-- `-`, between the first and the last of files, or of ranks
abbrev pub hyphen : ℕ
hyphen = 45

abbrev pub is_quote : ℕ → Bool
is_quote b = b == 34

abbrev pub is_comma : ℕ → Bool
is_comma b = b == 44

abbrev pub is_closing_bracket : ℕ → Bool
is_closing_bracket b = b == 93

-- the text has a first byte, which passes the test
abbrev pub begins : (ℕ → Bool) → List ℕ → Bool
begins test [] = false
begins test (b ∷ text) = test b
