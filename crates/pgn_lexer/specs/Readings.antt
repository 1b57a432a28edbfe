-- The longest reading at a place: sections 5, 6 and 7 of the PGN standard, with its section 8.2.3.8 on suffixes.
use Rattle.std.specs.Prelude.{ℕ, ◌+◌, Bool, false, not, ◌==◌, ◌||◌, ◌&&◌, nat_lt, List, [], ◌∷◌, length, take, min, slice_index, if◌then◌else◌}
use Rattle.std.specs.List.{prefix_len, position_or_len}
use Rattle.std.specs.Char.{is_ascii_digit, is_ascii_alphanumeric}
use Rattle.std.specs.Str.Parse.{digits_value}
use Rattle.pgn_lexer.specs.Bytes.{beyond_glyphs, line_feed, left_brace, right_brace, semicolon, percent_sign, quote, backslash, dollar_sign, exclamation_mark, question_mark, hyphen, left_bracket, right_bracket, left_paren, right_paren, period, star, ends_line, continues_symbol}
use Rattle.pgn_lexer.specs.declared.token.TokenKind.{TokenKind}
use Rattle.pgn_lexer.specs.declared.token.TokenKind.TheVariants.{Open, Close, Text, Symbol, Period, Star, LeftParen, RightParen, Nag, Null, Comment, LineComment, BadByte, UnclosedComment, UnclosedText}
use Rattle.pgn_lexer.specs.declared.token.LexemeKind.TheVariants.{EscapeLine, Token}
use Rattle.pgn_lexer.specs.declared.token.Reading.{Reading}

-- a token of `len` bytes
abbrev pub token : TokenKind → ℕ → Reading
token kind len = record { kind = Token kind; len = len }

-- `rest` below is the bytes after the first byte of the reading

-- section 5: a comment goes from { to the next }, and doesn't nest; without } it takes all the rest
unfoldable pub comment : List ℕ → Reading
comment rest =
    let body = position_or_len (λ b. b == right_brace) rest in
    if nat_lt body (length rest) then token Comment (body + 2) else token UnclosedComment (body + 1)

-- section 5: a comment goes from ; to the line's end
unfoldable pub line_comment : List ℕ → Reading
line_comment rest = token LineComment (position_or_len ends_line rest + 1)

-- section 6: % in the first column, and the line after it
unfoldable pub escape_line : List ℕ → Reading
escape_line rest = record { kind = EscapeLine; len = position_or_len ends_line rest + 1 }

-- the special bytes of a string: a quote and LF, which may end it, and a backslash, which may take the next byte with
-- it
abbrev pub is_special : ℕ → Bool
is_special b = b == quote || b == backslash || b == line_feed

-- `escaped` below is true if the byte before is a backslash that takes this byte with it

-- a string ends before a line's end always, and before a quote that is not escaped
abbrev pub ends_body : (escaped : Bool) → ℕ → Bool
ends_body escaped b = ends_line b || (b == quote && not escaped)

-- a backslash takes the next byte with it unless it is escaped itself
abbrev pub takes_next : (escaped : Bool) → ℕ → Bool
takes_next escaped b = b == backslash && not escaped

-- the number of bytes of a string before its end
unfoldable pub body_len : (escaped : Bool) → List ℕ → ℕ
body_len escaped [] = 0
body_len escaped (b ∷ bs) = if ends_body escaped b then 0 else 1 + body_len (takes_next escaped b) bs

-- section 7: a string goes from quote to quote, on one line
unfoldable pub text : List ℕ → Reading
text rest =
    let body = body_len false rest in
    if slice_index rest body == quote then token Text (body + 2) else token UnclosedText (body + 1)

-- section 7: a symbol begins with a letter or digit
unfoldable pub symbol : List ℕ → Reading
symbol rest = token Symbol (prefix_len continues_symbol rest + 1)

-- section 7: a Numeric Annotation Glyph is $ and a number, here cut at a number beyond the standard's range
unfoldable pub nag : List ℕ → Reading
nag rest =
    let digits = prefix_len is_ascii_digit rest in
    if digits == 0 then token BadByte 1 else token (Nag (min beyond_glyphs (digits_value 10 (take digits rest)))) (digits + 1)

-- section 8.2.3.8: the suffixes are the glyphs 1 to 6
unfoldable pub good_suffix : List ℕ → Reading
good_suffix rest =
    if slice_index rest 0 == exclamation_mark then token (Nag 3) 2
    else (if slice_index rest 0 == question_mark then token (Nag 5) 2
    else token (Nag 1) 1)

unfoldable pub poor_suffix : List ℕ → Reading
poor_suffix rest =
    if slice_index rest 0 == question_mark then token (Nag 4) 2
    else (if slice_index rest 0 == exclamation_mark then token (Nag 6) 2
    else token (Nag 2) 1)

-- the null move --, which is no part of the standard
unfoldable pub null_move : List ℕ → Reading
null_move rest = if slice_index rest 0 == hyphen then token Null 2 else token BadByte 1

-- section 7: the tokens of one byte; any other byte is a bad one
unfoldable pub single : ℕ → Reading
single b =
    if b == left_bracket then token Open 1
    else (if b == right_bracket then token Close 1
    else (if b == left_paren then token LeftParen 1
    else (if b == right_paren then token RightParen 1
    else (if b == period then token Period 1
    else (if b == star then token Star 1
    else token BadByte 1)))))

-- the longest reading of a byte, which isn't white space, and the bytes after it;
-- `first` is true if the byte is in the first column
unfoldable pub reading : (first : Bool) → ℕ → List ℕ → Reading
reading first b rest =
    if is_ascii_alphanumeric b then symbol rest
    else (if b == left_brace then comment rest
    else (if b == semicolon then line_comment rest
    else (if b == percent_sign && first then escape_line rest
    else (if b == quote then text rest
    else (if b == dollar_sign then nag rest
    else (if b == exclamation_mark then good_suffix rest
    else (if b == question_mark then poor_suffix rest
    else (if b == hyphen then null_move rest
    else single b))))))))
