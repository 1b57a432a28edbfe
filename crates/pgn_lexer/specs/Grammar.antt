-- The grammar of the lexemes: the whole texts of each kind. It knows nothing of the bytes that follow.
--
-- It is that of the PGN standard: section 5 on comments, section 6 on escape lines, section 7 on tokens and section
-- 8.2.3.8 on suffixes. It is more lenient in these points. Digits alone are a symbol, and no integer of their own. A
-- symbol continues over /, so that 1/2-1/2 is one. A string may have every byte but LF, without limit of length, and a
-- backslash may come before any of them. Suffixes are tokens. A glyph's number may be of any length. -- is a null move.
-- Comments and strings that don't end, and bytes that begin nothing, among them < and >, are faulty tokens: no text is
-- rejected as a whole.
use Rattle.std.specs.Prelude.{ℕ, ◌<◌, ◌≤◌, ◌≡◌, ◌≢◌, ◌⊎◌, Bool, true, List, [], ◌∷◌, ◌++◌, length, take, min, codes}
use Rattle.std.specs.List.{AllByRecursion}
use Rattle.std.specs.Char.{is_ascii_digit, is_ascii_alphanumeric}
use Rattle.std.specs.Str.Parse.{digits_value}
use Rattle.pgn_lexer.specs.Bytes.{beyond_glyphs, line_feed, left_brace, right_brace, semicolon, percent_sign, quote, backslash, dollar_sign, continues_symbol}
use Rattle.pgn_lexer.specs.declared.token.Reading.{Reading}
use Rattle.pgn_lexer.specs.declared.token.TokenKind.TheVariants.{Open, Close, Text, Symbol, Period, Star, LeftParen, RightParen, Nag, Null, Comment, LineComment, BadByte, UnclosedComment, UnclosedText}
use Rattle.pgn_lexer.specs.declared.token.LexemeKind.{LexemeKind}
use Rattle.pgn_lexer.specs.declared.token.LexemeKind.TheVariants.{EscapeLine, Token}

-- no byte of a text is c
abbrev pub Lacks : ℕ → List ℕ → Type 0
Lacks c bytes = AllByRecursion (λ b. b ≢ c) bytes

-- a plain byte of a string: no quote, no backslash and no LF
abbrev pub IsPlain : ℕ → Type 0
IsPlain b = (b ≢ quote) × (b ≢ backslash) × (b ≢ line_feed)

-- the text between the quotes of a string: plain bytes, and backslashes with a byte each that isn't LF
abbrev pub IsBody : List ℕ → Type 0
IsBody [] = Unit {0}
IsBody (b ∷ []) = IsPlain b
IsBody (b ∷ c ∷ bs) = (IsPlain b × IsBody (c ∷ bs)) ⊎ ((b ≡ backslash) × (c ≢ line_feed) × IsBody bs)

-- the glyphs 1 to 6 as suffixes: section 8.2.3.8 of the PGN standard
abbrev pub IsSuffix : ℕ → List ℕ → Type 0
IsSuffix n text =
    ((n ≡ 1) × (text ≡ codes "!")) ⊎ (((n ≡ 2) × (text ≡ codes "?")) ⊎ (((n ≡ 3) × (text ≡ codes "!!"))
    ⊎ (((n ≡ 4) × (text ≡ codes "??")) ⊎ (((n ≡ 5) × (text ≡ codes "!?")) ⊎ ((n ≡ 6) × (text ≡ codes "?!"))))))

-- a glyph by its number
abbrev pub IsNumbered : ℕ → List ℕ → Type 0
IsNumbered n text =
    (digits : List ℕ) × (text ≡ dollar_sign ∷ digits) × (0 < length digits)
    × AllByRecursion (λ d. is_ascii_digit d ≡ true) digits × (n ≡ min beyond_glyphs (digits_value 10 digits))

-- A text is a lexeme of a kind; `first` is true if it begins in the first column. Any single byte may be a bad one, and
-- is read so only if no other reading exists.
abbrev pub IsLexeme : (first : Bool) → LexemeKind → List ℕ → Type 0
IsLexeme first EscapeLine text = (line : List ℕ) × (text ≡ percent_sign ∷ line) × (first ≡ true) × Lacks line_feed line
IsLexeme first (Token Open) text = text ≡ codes "["
IsLexeme first (Token Close) text = text ≡ codes "]"
IsLexeme first (Token Text) text = (body : List ℕ) × (text ≡ quote ∷ body ++ quote ∷ []) × IsBody body
IsLexeme first (Token Symbol) text =
    (b : ℕ) × (more : List ℕ) × (text ≡ b ∷ more) × (is_ascii_alphanumeric b ≡ true)
    × AllByRecursion (λ c. continues_symbol c ≡ true) more
IsLexeme first (Token Period) text = text ≡ codes "."
IsLexeme first (Token Star) text = text ≡ codes "*"
IsLexeme first (Token LeftParen) text = text ≡ codes "("
IsLexeme first (Token RightParen) text = text ≡ codes ")"
IsLexeme first (Token (Nag n)) text = IsNumbered n text ⊎ IsSuffix n text
IsLexeme first (Token Null) text = text ≡ codes "--"
IsLexeme first (Token Comment) text = (body : List ℕ) × (text ≡ left_brace ∷ body ++ right_brace ∷ []) × Lacks right_brace body
IsLexeme first (Token LineComment) text = (line : List ℕ) × (text ≡ semicolon ∷ line) × Lacks line_feed line
IsLexeme first (Token BadByte) text = length text ≡ 1
IsLexeme first (Token UnclosedComment) text = (body : List ℕ) × (text ≡ left_brace ∷ body) × Lacks right_brace body
IsLexeme first (Token UnclosedText) text =
    (body : List ℕ) × (text ≡ quote ∷ body) × (IsBody body ⊎ ((before : List ℕ) × (body ≡ before ++ backslash ∷ []) × IsBody before))

-- A reading is the longest: it is a lexeme of its kind within the bytes, and no lexeme at that place has more bytes. No
-- other lexeme has as many, except that any byte may be a bad one.
pub record IsLongest (first : Bool) (bytes : List ℕ) (r : Reading) : Type 0 where
  pub within : r.len ≤ length bytes
  pub reads : IsLexeme first r.kind (take r.len bytes)
  pub longest : (other : LexemeKind) (n : ℕ) → n ≤ length bytes → IsLexeme first other (take n bytes) → n ≤ r.len
  pub only : (other : LexemeKind) → (other ≡ Token BadByte → ⊥) → IsLexeme first other (take r.len bytes) → r.kind ≡ other
