-- The meaning of a line of moves (PGN standard, section 8.2).
use Rattle.std.specs.Prelude.{◌≡◌, ℕ, ◌+◌, ◌<◌, List, [], ◌∷◌, ◌++◌, Option, Some, None, Ok, if◌then◌else◌}
use Rattle.cq_position.specs.declared.moves.Move.{Move}
use Rattle.cq_position.specs.Board.{Board}
use Rattle.cq_position.specs.Legal.{after, after_pass}
use Rattle.cq_position.specs.Continuations.{Continuations, none, played}
use Rattle.cq_san.specs.San.{san}
use Rattle.pgn_reader.specs.Words.{Word, Sense, plays, annotates, remarks, ends, opens, closes, means_nothing, out_of_place, sense}
use Rattle.cq_position.specs.Comments.{words, comment_of}
use Rattle.pgn_reader.specs.Limits.{most_levels}

-- A line: tokens, and variations, each a line between two tokens, its parentheses.
pub data Line : Type 0 where
  nothing : Line
  word : Word → Line → Line
  variation : (opening : Word) → (inner : Line) → (closing : Word) → Line → Line

-- the tokens of a line
abbrev pub text : Line → List Word
text nothing = []
text (word w rest) = w ∷ text rest
text (variation opening inner closing rest) = opening ∷ (text inner ++ closing ∷ text rest)

-- a place in a line: the position before the last move, none if the line has no move yet, and the position reached
pub record LinePlace : Type 0 where
  pub before : Option Board
  pub reached : Board

abbrev pub beginning : Board → LinePlace
beginning p = record { before = None; reached = p }

-- the position after a legal move, or after the null move
abbrev pub position_after : Board → Move → Board
position_after p m = if m.null then after_pass p else after p m

abbrev pub moved : LinePlace → Move → LinePlace
moved a m = record { before = Some a.reached; reached = position_after a.reached m }

-- The meaning of the rest of a line, from a place in it on. First the glyphs and the comments of the move before it,
-- or, if there is none, of the line's first move. Then the variations that replace the move before it, the moves played
-- after it, and the place at the end of the line.
pub record LineTail : Type 0 where
  pub nags : List ℕ
  pub comments : List (List ℕ)
  pub variations : Continuations
  pub rest : Continuations
  pub end : LinePlace

abbrev pub empty_tail : LinePlace → LineTail
empty_tail a = record { nags = []; comments = []; variations = none; rest = none; end = a }

-- the meaning of a glyph or a comment and the tokens after it
abbrev pub tail_with_glyph : ℕ → LineTail → LineTail
tail_with_glyph n t = record t { nags = n ∷ t.nags }

abbrev pub tail_with_comment : List ℕ → LineTail → LineTail
tail_with_comment c t = record t { comments = comment_of (words c) ++ t.comments }

-- a move to a place and the tokens after it: its own glyphs, comments and variations, and the moves played after it
abbrev pub tail_with_move : Move → Board → LineTail → LineTail
tail_with_move m q t = record {
  nags = [];
  comments = [];
  variations = none;
  rest = played (record { move = m; position = q; nags = t.nags; comments = t.comments }) t.rest t.variations;
  end = t.end;
}

-- moves, and then others that are played from the same position, in order
abbrev pub beside : Continuations → Continuations → Continuations
beside none more = more
beside (played p next others) more = played p next (beside others more)

-- the glyphs and the comments at the beginning of a variation are its first move's, before that move's own
abbrev pub with_leading_notes : List ℕ → List (List ℕ) → Continuations → Continuations
with_leading_notes nags comments none = none
with_leading_notes nags comments (played p next others) = played (record p { nags = nags ++ p.nags; comments = comments ++ p.comments }) next others

abbrev pub tail_with_variation : LineTail → LineTail → LineTail
tail_with_variation v t = record t { variations = beside (with_leading_notes v.nags v.comments v.rest) t.variations }

-- the meaning of a token and the rest of its line: `b` is the place after it, and `u` the meaning of the rest
abbrev pub ParsesWord : ℕ → LinePlace → Sense → LinePlace → LineTail → LineTail → Type 0
ParsesWord depth a (plays m) b u t = (move : Move) × (san a.reached m ≡ Ok move) × (b ≡ moved a move) × (t ≡ tail_with_move move b.reached u)
ParsesWord depth a (annotates n) b u t = (b ≡ a) × (t ≡ tail_with_glyph n u)
ParsesWord depth a (remarks c) b u t = (b ≡ a) × (t ≡ tail_with_comment c u)
ParsesWord depth a (ends result) b u t = (0 < depth) × (b ≡ a) × (t ≡ u)
ParsesWord depth a means_nothing b u t = (b ≡ a) × (t ≡ u)
ParsesWord depth a opens b u t = ⊥
ParsesWord depth a closes b u t = ⊥
ParsesWord depth a (out_of_place reason) b u t = ⊥

-- The meaning of a line from a place on, within `depth` variations. A move is the one that its token means in the
-- position reached. Glyphs and comments belong to the move before them. A variation comes at any place after a move of
-- its line, begins in the position before that move, and has a move. It is at most of the hundredth level. A result
-- within a variation means nothing.
abbrev pub ParsesLine : ℕ → LinePlace → Line → LineTail → Type 0
ParsesLine depth a nothing t = t ≡ empty_tail a
ParsesLine depth a (word w rest) t = (b : LinePlace) × (u : LineTail) × ParsesWord depth a (sense w) b u t × ParsesLine depth b rest u
ParsesLine depth a (variation opening inner closing rest) t =
    (p : Board) × (a.before ≡ Some p) × (depth < most_levels) × (sense opening ≡ opens) × (sense closing ≡ closes)
    × (v : LineTail) × ParsesLine (depth + 1) (beginning p) inner v × (q : Board) × (v.end.before ≡ Some q)
    × (u : LineTail) × ParsesLine depth a rest u × (t ≡ tail_with_variation v u)
