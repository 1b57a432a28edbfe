-- The bytes that distinguish tokens, and the number beyond those of glyphs.
use Rattle.std.specs.Prelude.{ℕ, Bool, ◌==◌, ◌||◌, codes}
use Rattle.std.specs.List.{list_any}
use Rattle.std.specs.Char.{is_ascii_alphanumeric}

abbrev pub line_feed : ℕ
line_feed = 10

abbrev pub space : ℕ
space = 32

-- the first bytes of tokens and escape lines, and the last bytes of comments and strings
abbrev pub left_brace : ℕ
left_brace = 123

abbrev pub right_brace : ℕ
right_brace = 125

abbrev pub semicolon : ℕ
semicolon = 59

abbrev pub percent_sign : ℕ
percent_sign = 37

abbrev pub quote : ℕ
quote = 34

abbrev pub backslash : ℕ
backslash = 92

abbrev pub dollar_sign : ℕ
dollar_sign = 36

abbrev pub exclamation_mark : ℕ
exclamation_mark = 33

abbrev pub question_mark : ℕ
question_mark = 63

abbrev pub hyphen : ℕ
hyphen = 45

abbrev pub left_bracket : ℕ
left_bracket = 91

abbrev pub right_bracket : ℕ
right_bracket = 93

abbrev pub left_paren : ℕ
left_paren = 40

abbrev pub right_paren : ℕ
right_paren = 41

abbrev pub period : ℕ
period = 46

abbrev pub star : ℕ
star = 42

-- glyphs have the numbers from 0 to 255; this one represents all beyond
abbrev pub beyond_glyphs : ℕ
beyond_glyphs = 256

-- a line ends with LF
abbrev pub ends_line : ℕ → Bool
ends_line b = b == line_feed

-- PGN standard, section 7: a symbol continues with letters, digits and _ + # = : - and here with / too, so that the
-- marker of a drawn game is one symbol
abbrev pub continues_symbol : ℕ → Bool
continues_symbol b = is_ascii_alphanumeric b || list_any (λ c. b == c) (codes "_+#=:-/")
