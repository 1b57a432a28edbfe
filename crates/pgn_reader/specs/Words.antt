-- The tokens of a game with their bytes, and the meaning of each in the movetext (PGN standard, section 8.2).
use Rattle.std.specs.Prelude.{ℕ, ◌-◌, ◌==◌, Bool, true, false, List, length, take, drop, map, nat_lt, codes, Option, Some, None, if◌then◌else◌}
use Rattle.std.specs.List.{list_all}
use Rattle.std.specs.Str.{bytes_eq}
use Rattle.std.specs.Char.{is_ascii_digit}
use Rattle.cq_position.specs.declared.games.GameResult.{GameResult}
use Rattle.cq_position.specs.declared.games.GameResult.TheVariants.{White, Black, Draw, Open as Undecided}
use Rattle.pgn_tree.specs.Words.{without_braces}
use Rattle.pgn_lexer.specs.declared.token.Token.{Token}
use Rattle.pgn_lexer.specs.declared.token.TokenKind.{TokenKind}
use Rattle.pgn_lexer.specs.declared.token.TokenKind.TheVariants.{Open, Close, Text, Symbol, Period, Star, LeftParen, RightParen, Nag, Null, Comment, LineComment, BadByte, UnclosedComment, UnclosedText}
use Rattle.pgn_lexer.specs.Lexemes.{tokens_of}
use Rattle.pgn_reader.specs.declared.fault.Reason.{Reason}
use Rattle.pgn_reader.specs.declared.fault.Reason.TheVariants.{BadByte as IsBadByte, UnclosedComment as IsUnclosedComment, UnclosedString, BadTag, NagRange}
use Rattle.cq_position.specs.Games.{glyph_numbers}

-- a token: its kind and its bytes
pub record Word : Type 0 where
  pub kind : TokenKind
  pub text : List ℕ

-- a token of a text whose first byte has the place `start`
abbrev pub word_of : ℕ → List ℕ → Token → Word
word_of start bytes t = record { kind = t.kind; text = take t.len (drop (t.at - start) bytes) }

-- the tokens of a text
abbrev pub words_of : ℕ → Bool → List ℕ → List Word
words_of start first bytes = map (word_of start bytes) (tokens_of start first bytes)

-- section 8.2.6: the text of a result
unfoldable pub result_of_text : List ℕ → Option GameResult
result_of_text text =
    if bytes_eq text (codes "1-0") then Some White
    else (if bytes_eq text (codes "0-1") then Some Black
    else (if bytes_eq text (codes "1/2-1/2") then Some Draw
    else (if bytes_eq text (codes "*") then Some Undecided else None)))

-- The meaning of a token in the movetext: a move, a numeric annotation glyph, a comment, a game's result, the beginning
-- or the end of a variation, or nothing. A token that may not come there is out of place, for a reason.
pub data Sense : Type 0 where
  plays : List ℕ → Sense
  annotates : ℕ → Sense
  remarks : List ℕ → Sense
  ends : GameResult → Sense
  opens : Sense
  closes : Sense
  means_nothing : Sense
  out_of_place : Reason → Sense

abbrev pub sense_of_marker : List ℕ → Option GameResult → Sense
sense_of_marker text None = plays text
sense_of_marker text (Some result) = ends result

-- a symbol of digits alone numbers a move and means nothing (section 8.2.2); any other that marks no result is a move
unfoldable pub sense_of_symbol : List ℕ → Sense
sense_of_symbol text = if list_all is_ascii_digit text then means_nothing else sense_of_marker text (result_of_text text)

-- section 8.2.4: glyphs are numbered up to 255
unfoldable pub sense_of_glyph : ℕ → Sense
sense_of_glyph n = if nat_lt n glyph_numbers then annotates n else out_of_place NagRange

-- the text between the braces of a comment
unfoldable pub body_of : List ℕ → List ℕ
body_of text = without_braces (take (length text - 2) (drop 1 text))

-- the text after the semicolon of a line comment
unfoldable pub line_body_of : List ℕ → List ℕ
line_body_of text = without_braces (drop 1 text)

abbrev pub sense_of : TokenKind → List ℕ → Sense
sense_of Symbol text = sense_of_symbol text
sense_of Null text = plays text
sense_of Period text = means_nothing
sense_of Star text = ends Undecided
sense_of LeftParen text = opens
sense_of RightParen text = closes
sense_of (Nag n) text = sense_of_glyph n
sense_of Comment text = remarks (body_of text)
sense_of LineComment text = remarks (line_body_of text)
sense_of Open text = out_of_place BadTag
sense_of Close text = out_of_place BadTag
sense_of Text text = out_of_place BadTag
sense_of BadByte text = out_of_place IsBadByte
sense_of UnclosedComment text = out_of_place IsUnclosedComment
sense_of UnclosedText text = out_of_place UnclosedString

unfoldable pub sense : Word → Sense
sense w = sense_of w.kind w.text

-- true if a token is a comment
abbrev pub is_remark : Sense → Bool
is_remark (remarks text) = true
is_remark _ = false

abbrev pub is_comment : Word → Bool
is_comment w = is_remark (sense w)

-- true if a token is a move of the movetext
abbrev pub is_move_sense : Sense → Bool
is_move_sense (plays text) = true
is_move_sense _ = false

abbrev pub is_move : Word → Bool
is_move w = is_move_sense (sense w)
