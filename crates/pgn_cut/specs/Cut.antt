-- The cut of an archive into games, by the lexemes of the whole archive.
use Rattle.std.specs.Prelude.{ℕ, ◌+◌, ◌-◌, Bool, true, false, not, ◌&&◌, ◌||◌, ◌==◌, List, [], ◌∷◌, ◌++◌, length, take, drop, fold, nat_eq, codes, if◌then◌else◌}
use Rattle.std.specs.List.{list_all, starts_with, common_prefix_len}
use Rattle.std.specs.Str.{bytes_eq}
use Rattle.pgn_lexer.specs.Lexemes.{Lexeme, end, lexemes}
use Rattle.pgn_lexer.specs.declared.token.TokenKind.TheVariants.{Open, Close, Symbol, Period, Star, LeftParen, RightParen, Nag, Null, Comment, LineComment, BadByte}
use Rattle.pgn_lexer.specs.declared.token.LexemeKind.{LexemeKind}
use Rattle.pgn_lexer.specs.declared.token.LexemeKind.TheVariants.{EscapeLine, Token}
use Rattle.pgn_cut.specs.declared.span.Span.{Span}

-- PGN standard, section 8.2.6: a game ends with *, or with a whole symbol 1-0, 0-1 or 1/2-1/2
abbrev pub is_result : List ℕ → Bool
is_result text = bytes_eq text (codes "1-0") || bytes_eq text (codes "0-1") || bytes_eq text (codes "1/2-1/2")

abbrev pub marks : LexemeKind → List ℕ → Bool
marks (Token Star) text = true
marks (Token Symbol) text = is_result text
marks _ text = false

abbrev pub is_marker : Lexeme → Bool
is_marker l = marks l.kind l.text

-- section 8.2.5: the depth of variations after some lexemes of a game; a ) too many doesn't count
abbrev pub nest : ℕ → LexemeKind → ℕ
nest depth (Token LeftParen) = depth + 1
nest depth (Token RightParen) = depth - 1
nest depth _ = depth

abbrev pub depth : List Lexeme → ℕ
depth game = fold (λ d l. nest d l.kind) 0 game

-- section 8.1: true if a tag pair is open after some lexemes
abbrev pub opens_pair : Bool → LexemeKind → Bool
opens_pair open_ (Token Open) = true
opens_pair open_ (Token Close) = false
opens_pair open_ _ = open_

-- section 8.2: the parts of movetext, comments aside
abbrev pub is_movetext : LexemeKind → Bool
is_movetext (Token Symbol) = true
is_movetext (Token Period) = true
is_movetext (Token Star) = true
is_movetext (Token LeftParen) = true
is_movetext (Token RightParen) = true
is_movetext (Token (Nag n)) = true
is_movetext (Token Null) = true
is_movetext (Token BadByte) = true
is_movetext _ = false

-- true if some lexeme is movetext and outside a tag pair; `in_pair` is true if one is open before the first
abbrev pub movetext_in : (in_pair : Bool) → List Lexeme → Bool
movetext_in in_pair [] = false
movetext_in in_pair (l ∷ ls) = (is_movetext l.kind && not in_pair) || movetext_in (opens_pair in_pair l.kind) ls

abbrev pub has_movetext : List Lexeme → Bool
has_movetext game = movetext_in false game

-- closed comments and escape lines alone make no game
abbrev pub is_passed_over : LexemeKind → Bool
is_passed_over EscapeLine = true
is_passed_over (Token Comment) = true
is_passed_over (Token LineComment) = true
is_passed_over _ = false

abbrev pub opens : LexemeKind → Bool
opens (Token Open) = true
opens _ = false

-- A game of these lexemes ends before the next one: a [ in the first column after movetext.
abbrev pub ends_before : List Lexeme → Lexeme → Bool
ends_before game l = opens l.kind && l.first && has_movetext game

-- A game of these lexemes ends after the next one: a marker outside variations.
abbrev pub ends_after : List Lexeme → Lexeme → Bool
ends_after game l = is_marker l && depth game == 0

-- the span of a game from its first lexeme to a place
abbrev pub span_to : ℕ → List Lexeme → List Span
span_to place [] = []
span_to place (l ∷ ls) = record { start = l.at; end = place; first = l.first } ∷ []

-- The games of an archive that ends at a place: those of `rest`, after the lexemes `game` of the game that is open
-- there.
unfoldable pub cut_from : (place : ℕ) → (game rest : List Lexeme) → List Span
cut_from place game [] = if list_all (λ l. is_passed_over l.kind) game then [] else span_to place game
cut_from place game (l ∷ ls) =
    if ends_before game l then span_to l.at game ++ cut_from place (l ∷ []) ls
    else (if ends_after game l then span_to (end l) (game ++ l ∷ []) ++ cut_from place [] ls
    else cut_from place (game ++ l ∷ []) ls)

-- a byte order mark of UTF-8 at the archive's start, EF BB BF, is skipped
abbrev pub first_of_mark : ℕ
first_of_mark = 239

abbrev pub second_of_mark : ℕ
second_of_mark = 187

abbrev pub third_of_mark : ℕ
third_of_mark = 191

abbrev pub byte_order_mark : List ℕ
byte_order_mark = first_of_mark ∷ second_of_mark ∷ third_of_mark ∷ []

abbrev pub text_start : List ℕ → ℕ
text_start archive = if starts_with nat_eq archive byte_order_mark then 3 else 0

-- the lexemes of an archive
abbrev pub archive_lexemes : List ℕ → List Lexeme
archive_lexemes archive = lexemes (text_start archive) true (drop (text_start archive) archive)

-- the games of an archive
abbrev pub cut : List ℕ → List Span
cut archive = cut_from (length archive) [] (archive_lexemes archive)

abbrev pub same_span : Span → Span → Bool
same_span a b = a.start == b.start && a.end == b.end && (if a.first then b.first else not b.first)

-- The games that are closed in every archive with this prefix: those that stay when the letter x follows. A game that
-- is still open reaches one byte further with it, and so is none of them.
abbrev pub closed : List ℕ → List Span
closed front = take (common_prefix_len same_span (cut front) (cut (front ++ codes "x"))) (cut front)
