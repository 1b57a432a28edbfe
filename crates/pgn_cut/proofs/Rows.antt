-- The definitions, computed on archives.
use Rattle.std.proofs.Common.{◌≡◌, ℕ, Bool, true, false, [], ◌∷◌, ◌++◌, refl}
use Rattle.std.specs.Prelude.{codes}
use Rattle.pgn_lexer.specs.Lexemes.{lexemes_from}
use Rattle.pgn_lexer.specs.Readings.{reading, symbol, comment, line_comment, text, body_len, single}
use Rattle.pgn_cut.specs.declared.span.Span.{Span}
use Rattle.pgn_cut.specs.Cut.{cut, closed, cut_from, byte_order_mark}

abbrev span : ℕ → ℕ → Bool → Span
span start end first = record { start = start; end = end; first = first }

pub nothing : cut [] ≡ []
unfolding lexemes_from cut_from
nothing = refl

pub white_space : cut (codes "  " ++ 13 ∷ 10 ∷ []) ≡ []
unfolding lexemes_from cut_from
white_space = refl

-- a byte order mark is no part of a game, and the byte after it is in the first column
pub mark_alone : cut byte_order_mark ≡ []
unfolding lexemes_from cut_from
mark_alone = refl

pub mark_before : cut (byte_order_mark ++ codes "*") ≡ span 3 4 true ∷ []
unfolding lexemes_from cut_from reading single
mark_before = refl

pub three_stars : cut (codes "* * *") ≡ span 0 1 true ∷ span 2 3 false ∷ span 4 5 false ∷ []
unfolding lexemes_from cut_from reading single
three_stars = refl

pub no_space_between : cut (codes "1. e4 *1. d4 *") ≡ span 0 7 true ∷ span 7 14 false ∷ []
unfolding lexemes_from cut_from reading single symbol
no_space_between = refl

-- a [ in the first column ends a game without a marker, white space before it included
pub tag_ends : cut (codes "1. e4" ++ 10 ∷ codes "[A \"b\"]" ++ 10 ∷ codes "*") ≡ span 0 6 true ∷ span 6 15 true ∷ []
unfolding lexemes_from cut_from reading single symbol text body_len
tag_ends = refl

-- but not before any movetext, nor in a comment or in a string
pub tags_stay : cut (codes "]{" ++ 10 ∷ codes "[}\"a" ++ 10 ∷ codes "[b [c") ≡ span 0 13 true ∷ []
unfolding lexemes_from cut_from reading single symbol text body_len comment
tags_stay = refl

-- a marker in a variation or in a comment ends nothing; one in a tag pair does
pub markers_within : cut (codes "e4 (d4 1-0) {*} *") ≡ span 0 17 true ∷ []
unfolding lexemes_from cut_from reading single symbol comment
markers_within = refl

pub marker_in_pair : cut (codes "[1-0 \"x\"]") ≡ span 0 4 true ∷ span 5 9 false ∷ []
unfolding lexemes_from cut_from reading single symbol text body_len
marker_in_pair = refl

-- a symbol that continues is no marker
pub longer_symbol : cut (codes "1. e4 1-0x *") ≡ span 0 12 true ∷ []
unfolding lexemes_from cut_from reading single symbol
longer_symbol = refl

-- comments after the last marker are no game, but one that is never closed is
pub comment_after : cut (codes "* {a} ;b") ≡ span 0 1 true ∷ []
unfolding lexemes_from cut_from reading single comment line_comment
comment_after = refl

pub unclosed_after : cut (codes "* {a") ≡ span 0 1 true ∷ span 2 4 false ∷ []
unfolding lexemes_from cut_from reading single comment
unclosed_after = refl

-- a ) too many doesn't count, and a ( keeps a game open to the archive's end, white space included
pub parentheses : cut (codes ")* (e4 * ") ≡ span 0 2 true ∷ span 3 9 false ∷ []
unfolding lexemes_from cut_from reading single symbol
parentheses = refl

-- a marker is closed once a byte follows that can't continue it
pub closed_early : closed (codes "* 1-0") ≡ span 0 1 true ∷ []
unfolding lexemes_from cut_from reading single symbol
closed_early = refl

pub closed_late : closed (codes "* 1-0 ") ≡ span 0 1 true ∷ span 2 5 false ∷ []
unfolding lexemes_from cut_from reading single symbol
closed_late = refl

-- a comment after the last marker is no game, and a [ in the first column closes the game before it
pub closed_comment : closed (codes "* {c}") ≡ span 0 1 true ∷ []
unfolding lexemes_from cut_from reading single symbol comment
closed_comment = refl

pub closed_by_tag : closed (codes "1." ++ 10 ∷ codes "[") ≡ span 0 3 true ∷ []
unfolding lexemes_from cut_from reading single symbol
closed_by_tag = refl

pub closed_longer : closed (codes "1. e4 1-0x *") ≡ span 0 12 true ∷ []
unfolding lexemes_from cut_from reading single symbol
closed_longer = refl
