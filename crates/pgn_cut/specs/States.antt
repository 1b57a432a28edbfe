-- The state of a lexeme that is open at a place, because its end is still to come, as the private functions give it. It
-- has the bytes of the lexeme, those that continue it, and its kind if none does.
use Rattle.std.specs.Prelude.{◌≡◌, ℕ, ◌+◌, Bool, true, false, not, ◌==◌, ◌||◌, ◌&&◌, ◌⊎◌, nat_eq, nat_lt, List, [], ◌∷◌, ◌++◌, length, slice_index, codes, Option, None, Some, if◌then◌else◌}
use Rattle.std.specs.List.{AllByRecursion, starts_with}
use Rattle.std.specs.Char.{is_ascii_digit, is_ascii_alphanumeric}
use Rattle.pgn_lexer.specs.Bytes.{left_brace, right_brace, semicolon, percent_sign, quote, backslash, dollar_sign, exclamation_mark, question_mark, hyphen, ends_line, continues_symbol}
use Rattle.pgn_lexer.specs.Grammar.{IsBody, IsLexeme}
use Rattle.pgn_lexer.specs.Lexemes.{lexemes, first_at}
use Rattle.pgn_lexer.specs.Locality.{IsUnsettled}
use Rattle.pgn_lexer.specs.declared.token.LexemeKind.{LexemeKind}
use Rattle.pgn_lexer.specs.declared.token.LexemeKind.TheVariants.{EscapeLine, Token}
use Rattle.pgn_lexer.specs.declared.token.TokenKind.TheVariants.{Text, Symbol, Null, Comment, LineComment, BadByte, UnclosedComment, UnclosedText}
use Rattle.pgn_cut.specs.Cut.{marks, nest, opens_pair, is_movetext, is_passed_over, opens, first_of_mark, second_of_mark, third_of_mark}
use Rattle.pgn_cut.specs.declared.state.ResultMarkers.{ResultMarkers}
use Rattle.pgn_cut.specs.declared.state.State.{State}
use Rattle.pgn_cut.specs.declared.state.State.TheVariants.{AtStart, OneOfMark, TwoOfMark, Between, InComment, InLine, InText, InSymbol, InNumber, InSuffix, InNull}

-- the front of the text between the quotes of a string; `escaped` is true if a backslash at its end takes the next byte
-- with it
abbrev pub IsPartOfText : (escaped : Bool) → List ℕ → Type 0
IsPartOfText false body = IsBody body
IsPartOfText true body = (before : List ℕ) × (body ≡ before ++ backslash ∷ []) × IsBody before

-- the results that a symbol begins
abbrev pub BeginResults : ResultMarkers → List ℕ → Type 0
BeginResults r bytes =
    (r.white ≡ starts_with nat_eq (codes "1-0") bytes) × (r.black ≡ starts_with nat_eq (codes "0-1") bytes)
    × (r.draw ≡ starts_with nat_eq (codes "1/2-1/2") bytes)

-- Some bytes are those of the open lexeme. `first` is true if it begins in the first column.
abbrev pub IsOpen : (first : Bool) → State → List ℕ → Type 0
IsOpen first AtStart bytes = ⊥
IsOpen first OneOfMark bytes = ⊥
IsOpen first TwoOfMark bytes = ⊥
IsOpen first Between bytes = bytes ≡ []
IsOpen first InComment bytes = IsLexeme first (Token UnclosedComment) bytes
IsOpen first InLine bytes = IsLexeme first (Token LineComment) bytes ⊎ IsLexeme first EscapeLine bytes
IsOpen first (InText escaped) bytes = (body : List ℕ) × (bytes ≡ quote ∷ body) × IsPartOfText escaped body
IsOpen first (InSymbol r) bytes = IsLexeme first (Token Symbol) bytes × BeginResults r bytes
IsOpen first InNumber bytes = (digits : List ℕ) × (bytes ≡ dollar_sign ∷ digits) × AllByRecursion (λ d. is_ascii_digit d ≡ true) digits
IsOpen first InSuffix bytes = (bytes ≡ codes "!") ⊎ (bytes ≡ codes "?")
IsOpen first InNull bytes = bytes ≡ codes "-"

-- a byte at its place continues a marker
abbrev pub begins_further : List ℕ → ℕ → ℕ → Bool
begins_further marker len b = nat_lt len (length marker) && b == slice_index marker len

-- the markers that begin with a byte: 1, which is 49, or 0, which is 48
abbrev pub results_from : ℕ → ResultMarkers
results_from b = record { white = b == 49; black = b == 48; draw = b == 49 }

-- those of them that a byte continues after `len` bytes
abbrev pub results_after : ResultMarkers → ℕ → ℕ → ResultMarkers
results_after r len b = record {
  white = r.white && begins_further (codes "1-0") len b;
  black = r.black && begins_further (codes "0-1") len b;
  draw = r.draw && begins_further (codes "1/2-1/2") len b;
}

-- true if one of them has `len` bytes
abbrev pub are_spelled : ResultMarkers → ℕ → Bool
are_spelled r len = ((r.white || r.black) && len == 3) || (r.draw && len == 7)

-- the state after the first byte of a lexeme, if it isn't a lexeme by itself
abbrev pub begun : (first : Bool) → ℕ → Option State
begun first b =
    if is_ascii_alphanumeric b then Some (InSymbol (results_from b))
    else (if b == left_brace then Some InComment
    else (if b == semicolon then Some InLine
    else (if b == percent_sign && first then Some InLine
    else (if b == quote then Some (InText false)
    else (if b == dollar_sign then Some InNumber
    else (if b == exclamation_mark then Some InSuffix
    else (if b == question_mark then Some InSuffix
    else (if b == hyphen then Some InNull
    else None))))))))

-- true if a byte belongs to what is open
abbrev pub takes : State → ℕ → Bool
takes AtStart b = b == first_of_mark
takes OneOfMark b = b == second_of_mark
takes TwoOfMark b = b == third_of_mark
takes Between b = true
takes InComment b = true
takes InLine b = not (ends_line b)
takes (InText escaped) b = not (ends_line b)
takes (InSymbol r) b = continues_symbol b
takes InNumber b = is_ascii_digit b
takes InSuffix b = b == exclamation_mark || b == question_mark
takes InNull b = b == hyphen

-- true if a byte that belongs to the open lexeme is its last
abbrev pub finishes : State → ℕ → Bool
finishes InComment b = b == right_brace
finishes (InText escaped) b = b == quote && not escaped
finishes InSuffix b = true
finishes InNull b = true
finishes _ b = false

-- the open lexeme, of `len` bytes, after one more
abbrev pub after : State → (len : ℕ) → ℕ → State
after (InText escaped) len b = InText (b == backslash && not escaped)
after (InSymbol r) len b = InSymbol (results_after r len b)
after s len b = s

-- the kind of the open lexeme without more bytes, or with its last byte, as far as a cut distinguishes kinds
abbrev pub kind_at_end : State → LexemeKind
kind_at_end InComment = Token UnclosedComment
kind_at_end InLine = Token LineComment
kind_at_end (InText escaped) = Token UnclosedText
kind_at_end (InSymbol r) = Token Symbol
kind_at_end _ = Token BadByte

abbrev pub kind_with_last : State → LexemeKind
kind_with_last InComment = Token Comment
kind_with_last (InText escaped) = Token Text
kind_with_last _ = Token Null

-- true if the open lexeme is a marker if it has `len` bytes and no more belong to it
abbrev pub is_marker_at_end : State → ℕ → Bool
is_marker_at_end (InSymbol r) len = are_spelled r len
is_marker_at_end _ len = false

-- a part of a byte order mark is open
abbrev pub is_in_mark : State → Bool
is_in_mark AtStart = true
is_in_mark OneOfMark = true
is_in_mark TwoOfMark = true
is_in_mark _ = false

-- a byte belongs to the open lexeme, and leaves its state as it is
pub record Stays (s : State) (b : ℕ) : Type 0 where
  pub takes_ : takes s b ≡ true
  pub no_last : finishes s b ≡ false
  pub same : (len : ℕ) → after s len b ≡ s
  pub some : s ≡ Between → ⊥
  pub no_mark : is_in_mark s ≡ false

-- an open lexeme ends before these bytes: there are none, or the first doesn't belong to it
abbrev pub EndsBefore : State → List ℕ → Type 0
EndsBefore s [] = Unit {0}
EndsBefore s (b ∷ bs) = takes s b ≡ false

-- a cut doesn't distinguish two kinds
pub record AreAlike (a b : LexemeKind) : Type 0 where
  pub nests : (d : ℕ) → nest d a ≡ nest d b
  pub pairs : (open_ : Bool) → opens_pair open_ a ≡ opens_pair open_ b
  pub movetext : is_movetext a ≡ is_movetext b
  pub passed_over : is_passed_over a ≡ is_passed_over b
  pub opens_ : opens a ≡ opens b

-- Some bytes are one lexeme before certain others, by a kind that a cut takes for this one.
pub record IsOneLexeme (first : Bool) (bytes : List ℕ) (kind : LexemeKind) (marker : Bool) (Before : List ℕ → Type 0) : Type 0 where
  pub read : LexemeKind
  pub alike : AreAlike kind read
  pub marked : marker ≡ marks read bytes
  pub next : (at : ℕ) (rest : List ℕ) → Before rest → lexemes at first (bytes ++ rest)
      ≡ record { at = at; first = first; text = bytes; kind = read }
      ∷ lexemes (at + length bytes) (first_at first bytes (length bytes)) rest

-- An open lexeme ends before certain bytes, by a kind that a cut takes for this one. At the archive's end it is
-- unsettled: it ends there, but more bytes might continue it.
abbrev pub EndsAs : (first : Bool) (bytes : List ℕ) (kind : LexemeKind) (marker : Bool) (Before : List ℕ → Type 0) → Type 0
EndsAs first bytes kind marker Before = IsOneLexeme first bytes kind marker Before × IsUnsettled first bytes
