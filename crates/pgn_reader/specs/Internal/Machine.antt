-- Reading token by token, as the private functions give it.
use Rattle.std.specs.Prelude.{ℕ, ◌+◌, List, [], ◌∷◌, length, Option, Some, None, Result, Ok, Err, Bool, true, false, nat_lt, fold}
use Rattle.cq_position.specs.declared.moves.Move.{Move}
use Rattle.cq_position.specs.declared.fen.FenFault.{FenFault}
use Rattle.cq_position.specs.declared.games.GameResult.{GameResult}
use Rattle.cq_position.specs.Board.{Board, start_board}
use Rattle.cq_san.specs.declared.fault.SanFault.{SanFault}
use Rattle.cq_san.specs.San.{san}
use Rattle.pgn_lexer.specs.declared.token.TokenKind.{TokenKind}
use Rattle.pgn_lexer.specs.declared.token.TokenKind.TheVariants.{Open, Close, Text, Symbol}
use Rattle.pgn_reader.specs.Words.{Word, Sense, plays, annotates, remarks, ends, opens, closes, means_nothing, out_of_place, sense}
use Rattle.cq_position.specs.Games.{with_tag}
use Rattle.pgn_reader.specs.Tags.{Tags, start_of, value_of}
use Rattle.pgn_reader.specs.Line.{position_after}
use Rattle.pgn_reader.specs.Internal.Frame.{Frame, begin, begin_game, advance, with_glyph, with_remark, with_variation}
use Rattle.pgn_reader.specs.Limits.{most_levels}

-- the tags, the position in which the game begins, and the number of the moves so far; `heading` is true if tag pairs
-- may still come
pub record Head : Type 0 where
  pub tags : Tags
  pub start : Board
  pub heading : Bool
  pub moves : ℕ

-- The state of reading: within a tag pair, in the movetext, after the marker, or stuck. In the movetext it has the
-- line, and the lines that are open around it, the innermost first.
pub data State : Type 0 where
  opened : Tags → State
  named : Tags → List ℕ → State
  valued : Tags → Board → State
  at : Head → Frame → List Frame → State
  ended : Head → Frame → GameResult → State
  stuck : State

-- movetext was seen
abbrev pub in_body : Head → Head
in_body h = record h { heading = false }

-- one more move was read
abbrev pub one_more : Head → Head
one_more h = record h { heading = false; moves = h.moves + 1 }

-- at the beginning of the movetext, or of the next tag pair
abbrev pub after_pairs : Tags → Board → State
after_pairs tags start = at (record { tags = tags; start = start; heading = true; moves = 0 }) (begin_game start) []

-- the state after the next token if it must be a tag's name, its value, or the `]` after that
abbrev pub on_name : Tags → TokenKind → List ℕ → State
on_name tags Symbol text = named tags text
on_name tags _ text = stuck

abbrev pub on_start : Tags → Result Board FenFault → State
on_start tags (Ok start) = valued tags start
on_start tags (Err fault) = stuck

abbrev pub on_value : Tags → TokenKind → State
on_value tags Text = on_start tags (start_of tags)
on_value tags _ = stuck

abbrev pub on_closing : Tags → Board → TokenKind → State
on_closing tags start Close = after_pairs tags start
on_closing tags start _ = stuck

-- The state after a token of the movetext: a move, a marker, the beginning or the end of a variation, a `[`, and any
-- other token. A variation may be at most of the hundredth level.
abbrev pub on_move : Head → Frame → List Frame → Result Move SanFault → State
on_move h f k (Err fault) = stuck
on_move h f k (Ok m) = at (one_more h) (advance f m (position_after f.reached m)) k

abbrev pub on_marker : Head → Frame → List Frame → GameResult → State
on_marker h f [] result = ended h f result
on_marker h f (g ∷ k) result = at (in_body h) f (g ∷ k)

abbrev pub on_opening : Head → Frame → List Frame → Bool → Option Board → State
on_opening h f k fits None = stuck
on_opening h f k false (Some p) = stuck
on_opening h f k true (Some p) = at (in_body h) (begin f.level p) (f ∷ k)

abbrev pub on_end : Head → Frame → List Frame → Option Board → State
on_end h f k None = stuck
on_end h f [] (Some p) = stuck
on_end h f (g ∷ k) (Some p) = at (in_body h) (with_variation g f) k

abbrev pub on_bracket : Bool → Tags → TokenKind → State
on_bracket true tags Open = opened tags
on_bracket _ tags kind = stuck

abbrev pub on_misplaced : Head → TokenKind → State
on_misplaced h kind = on_bracket h.heading h.tags kind

abbrev pub on_sense : Head → Frame → List Frame → TokenKind → Sense → State
on_sense h f k kind (plays m) = on_move h f k (san f.reached m)
on_sense h f k kind (annotates n) = at (in_body h) (with_glyph f n) k
on_sense h f k kind (remarks c) = at h (with_remark f c) k
on_sense h f k kind (ends result) = on_marker h f k result
on_sense h f k kind opens = on_opening h f k (nat_lt (length k) most_levels) f.before
on_sense h f k kind closes = on_end h f k f.before
on_sense h f k kind means_nothing = at (in_body h) f k
on_sense h f k kind (out_of_place reason) = on_misplaced h kind

-- the state after one more token
unfoldable pub feed : State → Word → State
feed (opened tags) w = on_name tags w.kind w.text
feed (named tags name) w = on_value (with_tag tags name (value_of w.text)) w.kind
feed (valued tags start) w = on_closing tags start w.kind
feed (at h f k) w = on_sense h f k w.kind (sense w)
feed (ended h f result) w = stuck
feed stuck w = stuck

-- the state after more tokens
abbrev pub run : State → List Word → State
run s ts = fold feed s ts

-- the state before the first token
abbrev pub first : State
first = after_pairs [] start_board
