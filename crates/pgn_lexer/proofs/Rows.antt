-- The definitions, computed on texts.
use Rattle.std.proofs.Common.{◌≡◌, ℕ, true, false, [], ◌∷◌, ◌++◌, refl}
use Rattle.std.specs.Prelude.{codes}
use Rattle.pgn_lexer.specs.Lexemes.{tokens_of, lexemes_from}
use Rattle.pgn_lexer.specs.Readings.{reading, symbol, comment, escape_line, text, body_len, nag, good_suffix, poor_suffix, null_move, single}
use Rattle.pgn_lexer.specs.declared.token.Token.{Token}
use Rattle.pgn_lexer.specs.declared.token.TokenKind.{TokenKind}
use Rattle.pgn_lexer.specs.declared.token.TokenKind.TheVariants.{Text, Symbol, Period, Star, Nag, Null, Comment, BadByte, UnclosedComment, UnclosedText}

abbrev token : ℕ → ℕ → TokenKind → Token
token at len kind = record { at = at; len = len; kind = kind }

-- a comment that is never closed takes all the rest
pub unclosed_comment : tokens_of 0 true (codes "1. e4 {never closed") ≡ token 0 1 Symbol ∷ token 1 1 Period ∷ token 3 2 Symbol ∷ token 6 13 UnclosedComment ∷ []
unfolding lexemes_from reading symbol comment single
unclosed_comment = refl

-- comments don't nest, and nothing in them counts
pub comment_of_all : tokens_of 7 true (codes "{a;b{%c\"}}") ≡ token 7 9 Comment ∷ token 16 1 BadByte ∷ []
unfolding lexemes_from reading comment single
comment_of_all = refl

-- every number above 255 is read as 256, and a $ alone is a bad byte
pub glyphs : tokens_of 0 true (codes "$256 $7 $ $99999 $255") ≡ token 0 4 (Nag 256) ∷ token 5 2 (Nag 7) ∷ token 8 1 BadByte ∷ token 10 6 (Nag 256) ∷ token 17 4 (Nag 255) ∷ []
unfolding lexemes_from reading nag single
glyphs = refl

-- the longer suffix wins
pub suffixes : tokens_of 0 true (codes "Qh5!?!!??!?!") ≡ token 0 3 Symbol ∷ token 3 2 (Nag 5) ∷ token 5 2 (Nag 3) ∷ token 7 2 (Nag 4) ∷ token 9 2 (Nag 5) ∷ token 11 1 (Nag 1) ∷ []
unfolding lexemes_from reading symbol good_suffix poor_suffix
suffixes = refl

-- a marker is whole only if nothing continues it; the marker of a draw is one symbol
pub markers : tokens_of 0 true (codes "1-0x 1/2-1/2 --- *") ≡ token 0 4 Symbol ∷ token 5 7 Symbol ∷ token 13 2 Null ∷ token 15 1 BadByte ∷ token 17 1 Star ∷ []
unfolding lexemes_from reading symbol null_move single
markers = refl

-- an escape line is in the first column alone
pub escape_lines : tokens_of 0 true (codes "%x y" ++ 10 ∷ codes "a %b" ++ 10 ∷ codes "%c") ≡ token 5 1 Symbol ∷ token 7 1 BadByte ∷ token 8 1 Symbol ∷ []
unfolding lexemes_from reading escape_line symbol single
escape_lines = refl

pub escape_elsewhere : tokens_of 0 false (codes "%x") ≡ token 0 1 BadByte ∷ token 1 1 Symbol ∷ []
unfolding lexemes_from reading symbol single
escape_elsewhere = refl

-- a string ends at its line's end, and a backslash doesn't take that
pub line_of_text : tokens_of 0 true (codes "\"a\\" ++ 10 ∷ codes "b\"") ≡ token 0 3 UnclosedText ∷ token 4 1 Symbol ∷ token 5 1 UnclosedText ∷ []
unfolding lexemes_from reading symbol text body_len
line_of_text = refl

-- a backslash takes the next byte with it
pub backslashes : tokens_of 0 true (codes "\"a\\\"b\\\\c\\n\"x") ≡ token 0 11 Text ∷ token 11 1 Symbol ∷ []
unfolding lexemes_from reading symbol text body_len
backslashes = refl
