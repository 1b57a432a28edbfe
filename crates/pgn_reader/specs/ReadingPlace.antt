-- The places of the first tokens of a game, and the reasons of the faults of tokens there.
use Rattle.std.specs.Prelude.{◌≡◌, ℕ, zero, suc, ◌+◌, ◌<◌, nat_lt, Bool, true, List, [], ◌∷◌, ◌++◌, count_by, Option, Some, None, Result, Ok, Err, if◌then◌else◌}
use Rattle.std.specs.List.{list_all}
use Rattle.cq_position.specs.declared.moves.Move.{Move}
use Rattle.cq_position.specs.declared.fen.FenFault.{FenFault}
use Rattle.cq_position.specs.declared.games.GameResult.{GameResult}
use Rattle.cq_position.specs.Board.{Board}
use Rattle.cq_position.specs.Games.{Game}
use Rattle.cq_san.specs.declared.fault.SanFault.{SanFault}
use Rattle.cq_san.specs.declared.fault.SanFault.TheVariants.{NotAMove as IsNoMove, IllegalMove as IsIllegal, AmbiguousMove as IsAmbiguous}
use Rattle.cq_san.specs.San.{san}
use Rattle.pgn_lexer.specs.declared.token.TokenKind.{TokenKind}
use Rattle.pgn_lexer.specs.declared.token.TokenKind.TheVariants.{Open, Close, Text, Symbol, Nag, BadByte, UnclosedComment, UnclosedText}
use Rattle.pgn_reader.specs.declared.fault.Reason.{Reason}
use Rattle.pgn_reader.specs.declared.fault.Reason.TheVariants.{BadByte as IsBadByte, UnclosedComment as IsUnclosedComment, UnclosedString, BadTag, BadFen, NagRange, NotAMove, IllegalMove, AmbiguousMove, VariationWithoutMove, EmptyVariation, UnopenedVariation, UnclosedVariation, TooDeep, TooManyPositions}
use Rattle.pgn_reader.specs.Words.{Word, Sense, plays, ends, opens, closes, out_of_place, sense, is_comment, is_move}
use Rattle.cq_position.specs.Games.{glyph_numbers, with_tag}
use Rattle.pgn_reader.specs.Tags.{Pair, Tags, tags_of, start_of, value_of}
use Rattle.pgn_reader.specs.Line.{Line, text, LinePlace, beginning, LineTail, ParsesLine}
use Rattle.pgn_reader.specs.Games.{heading_text, AreHeading, Spells}
use Rattle.pgn_reader.specs.Limits.{most_levels, most_moves}

-- The beginning of a game's movetext: a line, or such a beginning, the parenthesis of a variation, and the beginning of
-- its line.
pub data OpenLines : Type 0 where
  outermost : Line → OpenLines
  within : OpenLines → (opening : Word) → Line → OpenLines

-- its tokens
abbrev pub open_lines_text : OpenLines → List Word
open_lines_text (outermost line) = text line
open_lines_text (within around opening line) = open_lines_text around ++ opening ∷ text line

-- the number of open variations
abbrev pub depth_of : OpenLines → ℕ
depth_of (outermost line) = 0
depth_of (within around opening line) = depth_of around + 1

-- the place in the innermost line that is reached from the position in which the game begins
abbrev pub Reaches : Board → OpenLines → LinePlace → Type 0
Reaches start (outermost line) a = (t : LineTail) × ParsesLine 0 (beginning start) line t × (t.end ≡ a)
Reaches start (within around opening line) a =
    (b : LinePlace) × Reaches start around b × (p : Board) × (b.before ≡ Some p) × (depth_of around < most_levels) × (sense opening ≡ opens)
    × (t : LineTail) × ParsesLine (depth_of around + 1) (beginning p) line t × (t.end ≡ a)

-- The place of some tokens: in a tag pair, in the movetext, or after the game's marker. In a tag pair it is after the
-- `[`, the name or the value, with the tags before it. In the movetext it has the number of open variations, that of
-- the moves so far, and the place reached; `heading` is true if tag pairs may still come.
pub data ReadingPlace : Type 0 where
  after_opening : Tags → ReadingPlace
  after_name : Tags → List ℕ → ReadingPlace
  after_value : ReadingPlace
  in_movetext : (heading : Bool) → (depth moves : ℕ) → LinePlace → ReadingPlace
  after_marker : ReadingPlace

-- the tags of pairs, if the position in which the game begins can be read
pub record HasHeading (pairs : List Pair) (tags : Tags) (start : Board) : Type 0 where
  pub are_pairs : AreHeading pairs
  pub are_tags : tags ≡ tags_of pairs
  pub starts : start_of tags ≡ Ok start

-- within a tag pair, of which `part` has the tokens so far
pub record InPair (ts : List Word) (tags : Tags) (part : List Word) : Type 0 where
  pub pairs : List Pair
  pub start : Board
  pub has_heading : HasHeading pairs tags start
  pub comments : List Word
  pub are_comments : list_all is_comment comments ≡ true
  pub joined : ts ≡ heading_text pairs ++ (comments ++ part)

-- in the movetext, with the number of open variations and of the moves so far, and the place reached
pub record InMovetext (ts : List Word) (heading : Bool) (depth moves : ℕ) (a : LinePlace) : Type 0 where
  pub pairs : List Pair
  pub tags : Tags
  pub start : Board
  pub has_heading : HasHeading pairs tags start
  pub begun : OpenLines
  pub reaches : Reaches start begun a
  pub joined : ts ≡ heading_text pairs ++ open_lines_text begun
  pub depth_is : depth ≡ depth_of begun
  pub moves_are : moves ≡ count_by is_move (open_lines_text begun)
  pub heading_is : heading ≡ list_all is_comment (open_lines_text begun)

-- after the marker of a game
pub record AfterMarker (ts : List Word) : Type 0 where
  pub game : Game
  pub spells : Spells ts game
  pub marked : (before : List Word) × (marker : Word) × (result : GameResult) × (ts ≡ before ++ marker ∷ []) × (sense marker ≡ ends result)

-- some tokens are at this place
abbrev pub IsReadingPlace : List Word → ReadingPlace → Type 0
IsReadingPlace ts (after_opening tags) = (opening : Word) × (opening.kind ≡ Open) × InPair ts tags (opening ∷ [])
IsReadingPlace ts (after_name tags text) =
    (opening : Word) × (name : Word) × (opening.kind ≡ Open) × (name.kind ≡ Symbol) × (name.text ≡ text)
    × InPair ts tags (opening ∷ name ∷ [])
IsReadingPlace ts after_value =
    (tags : Tags) × (opening : Word) × (name : Word) × (value : Word) × (opening.kind ≡ Open) × (name.kind ≡ Symbol) × (value.kind ≡ Text)
    × InPair ts tags (opening ∷ name ∷ value ∷ [])
IsReadingPlace ts (in_movetext heading depth moves a) = InMovetext ts heading depth moves a
IsReadingPlace ts after_marker = AfterMarker ts

-- the reason at a token that isn't the next one of its tag pair: a faulty token has its own everywhere
abbrev pub tag_reason : TokenKind → Reason
tag_reason BadByte = IsBadByte
tag_reason UnclosedComment = IsUnclosedComment
tag_reason UnclosedText = UnclosedString
tag_reason _ = BadTag

abbrev pub name_fault : TokenKind → Option Reason
name_fault Symbol = None
name_fault kind = Some (tag_reason kind)

-- the string of a tag, after which the position in which the game begins can be read or not
abbrev pub fen_fault : Result Board FenFault → Option Reason
fen_fault (Ok start) = None
fen_fault (Err fault) = Some BadFen

abbrev pub value_fault : TokenKind → Result Board FenFault → Option Reason
value_fault Text start = fen_fault start
value_fault kind start = Some (tag_reason kind)

abbrev pub closing_fault : TokenKind → Option Reason
closing_fault Close = None
closing_fault kind = Some (tag_reason kind)

-- a move: the text means none, or it would make the 65,537th position, the root counted
abbrev pub san_reason : SanFault → Reason
san_reason IsNoMove = NotAMove
san_reason IsIllegal = IllegalMove
san_reason IsAmbiguous = AmbiguousMove

abbrev pub move_fault : (moves : ℕ) → Result Move SanFault → Option Reason
move_fault moves (Err fault) = Some (san_reason fault)
move_fault moves (Ok move) = if nat_lt moves most_moves then None else Some TooManyPositions

-- the parenthesis that opens a variation, and the one that closes it
abbrev pub variation_fault : (depth : ℕ) → Option Board → Option Reason
variation_fault depth None = Some VariationWithoutMove
variation_fault depth (Some before) = if nat_lt depth most_levels then None else Some TooDeep

abbrev pub end_of_variation_fault : (depth : ℕ) → Option Board → Option Reason
end_of_variation_fault zero before = Some UnopenedVariation
end_of_variation_fault (suc depth) None = Some EmptyVariation
end_of_variation_fault (suc depth) (Some before) = None

-- a token that is out of place in the movetext, except a `[` while tag pairs may come
abbrev pub misplaced_fault : (heading : Bool) → TokenKind → Reason → Option Reason
misplaced_fault true Open reason = None
misplaced_fault _ kind reason = Some reason

abbrev pub movetext_fault : (heading : Bool) → (depth moves : ℕ) → LinePlace → TokenKind → Sense → Option Reason
movetext_fault heading depth moves a kind (plays m) = move_fault moves (san a.reached m)
movetext_fault heading depth moves a kind opens = variation_fault depth a.before
movetext_fault heading depth moves a kind closes = end_of_variation_fault depth a.before
movetext_fault heading depth moves a kind (out_of_place reason) = misplaced_fault heading kind reason
movetext_fault heading depth moves a kind _ = None

-- nothing comes after a marker
abbrev pub marker_fault : TokenKind → Option Reason
marker_fault (Nag n) = Some (if nat_lt n glyph_numbers then BadTag else NagRange)
marker_fault kind = Some (tag_reason kind)

-- the reason if a token is a fault at a place, none if a game may continue with it
abbrev pub fault_at : ReadingPlace → Word → Option Reason
fault_at (after_opening tags) w = name_fault w.kind
fault_at (after_name tags name) w = value_fault w.kind (start_of (with_tag tags name (value_of w.text)))
fault_at after_value w = closing_fault w.kind
fault_at (in_movetext heading depth moves a) w = movetext_fault heading depth moves a w.kind (sense w)
fault_at after_marker w = marker_fault w.kind

-- the reason if the end is a fault
abbrev pub variations_fault : (depth : ℕ) → Option Reason
variations_fault zero = None
variations_fault (suc depth) = Some UnclosedVariation

abbrev pub fault_at_end : ReadingPlace → Option Reason
fault_at_end (after_opening tags) = Some BadTag
fault_at_end (after_name tags name) = Some BadTag
fault_at_end after_value = Some BadTag
fault_at_end (in_movetext heading depth moves a) = variations_fault depth
fault_at_end after_marker = None

-- the number of moves before a place
abbrev pub moves_before : ReadingPlace → ℕ
moves_before (in_movetext heading depth moves a) = moves
moves_before _ = 0
